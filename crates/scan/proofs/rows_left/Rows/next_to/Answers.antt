use Rattle.std.proofs.Common.{◌∙◌}
use Rattle.scan.proofs.rows_left.Rows.next_to.Goals as goal

pub returns-in-Err-clause-takes : goal.returns-in-Err-clause-takes
returns-in-Err-clause-takes g c = λ rows s. c.from.ensures ∙ c.in-Err.ensures.takes rows s
