use Rattle.reports.proofs.Joined.{joined}
use Rattle.reports.proofs.inspect_problems.Problems.add_of_groups.Goals as goal

pub returns-in_err-add_at : goal.returns-in_err-add_at
returns-in_err-add_at c = record { only = λ p has. joined (c.loop-place.invariant p) (c.add_at.ensures.only p has) }

pub loop-place-preserved : goal.loop-place-preserved
loop-place-preserved c = λ p has. joined (c.loop-place.invariant p) (c.add_at.ensures.only p has)
