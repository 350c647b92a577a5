use Rattle.clap.specs.Matches.{found_of}
use Rattle.program.proofs.CommandLines.{by_found, unmet_by}
use Rattle.program.proofs.arguments.met_request.Goals as goal

pub returns-clause-asking : goal.returns-clause-asking
returns-clause-asking c =
    by_found c.args.matches.now c.args.word.now (found_of c.in-Some.found.now) c.request_in.result c.in-Some.ensures.met c.request_in.ensures.begins
    c.request_in.ensures.asks c.request_in.ensures.quiet

pub returns-clause-none : goal.returns-clause-none
returns-clause-none c = unmet_by c.args.matches.now c.args.word.now
    (found_of c.in-Some.found.now) c.request_in.result c.in-Some.ensures.met c.request_in.ensures.lacks
