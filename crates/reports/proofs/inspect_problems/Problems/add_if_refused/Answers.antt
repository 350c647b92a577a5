use Rattle.std.proofs.Common.{sym, ◌∙◌}
use Rattle.std.proofs.lemmas.Option.{none-some}
use Rattle.reports.proofs.Joined.{also}
use Rattle.reports.proofs.inspect_problems.Problems.add_if_refused.Goals as goal

pub returns-in-Some-clause-only : goal.returns-in-Some-clause-only
returns-in-Some-clause-only c = λ p has.
    also (λ can. none-some c.in-Some.refusal (sym (c.in_ok-refusal.ensures.verdict.1 can) ∙ c.in-Some.is)) (c.add_of_group.ensures.only p has)
