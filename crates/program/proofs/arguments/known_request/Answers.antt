use Rattle.std.proofs.Common.{rules}
use Rattle.program.proofs.CommandLines.{unmet_first}
use Rattle.program.proofs.arguments.known_request.Goals as goal

pub returns-clause-none : goal.returns-clause-none
returns-clause-none c = unmet_first c.args.words.now c.args.matches.now _ c.met_request.result (search rules) c.met_request.ensures.none
