use Rattle.std.proofs.lemmas.Result.{IfOk-weaker}
use Rattle.program.proofs.CommandLines.{are_matches, all_not_taken}
use Rattle.program.proofs.command_line.parsed.Goals as goal

pub returns-in-Ok-clause-finds : goal.returns-in-Ok-clause-finds
returns-in-Ok-clause-finds c =
    IfOk-weaker c.try_get_matches_from.result _ _
    (λ matches has. are_matches c.args.words.now c.standard.result c.in-Ok.program matches c.in-Ok.ensures has) c.try_get_matches_from.ensures.matches

pub returns-in-Ok-clause-refused : goal.returns-in-Ok-clause-refused
returns-in-Ok-clause-refused c = all_not_taken c.args.words.now c.standard.result c.in-Ok.program c.try_get_matches_from.result c.in-Ok.ensures
    c.try_get_matches_from.ensures.passes
