use Rattle.std.proofs.Common.{refl}
use Rattle.reports.proofs.Joined.{joined}
use Rattle.reports.proofs.inspect_problems.Problems.add_of_group.Goals as goal

pub returns-in-Some-clause-only : goal.returns-in-Some-clause-only
returns-in-Some-clause-only c = λ p has. c.add.ensures.only c.args.place refl p has

pub returns-then-branch-clause-named : goal.returns-then-branch-clause-named
returns-then-branch-clause-named c = c.in_ok-add_of_chunks.ensures.named c.if-branch.true

pub returns-clause-only : goal.returns-clause-only
returns-clause-only c = λ p has. joined (c.add_of_chunks.ensures.only p) (c.add-2.ensures.only c.args.place refl p has)
