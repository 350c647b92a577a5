use Rattle.std.proofs.Common.{◌≡◌, drop}
use Rattle.std.specs.List.{list_any, list_all}
use Rattle.filter.specs.Verdicts.{verdicts_view}
use Rattle.filter.proofs.judging.some_are_true.Given as goal

abbrev pub invariant-loop-terms : goal.invariant-loop-terms
invariant-loop-terms l = list_any (λ terms. list_all (λ b. b) terms) (verdicts_view (drop l.terms-index l.verdicts)) ≡ list_any (λ terms. list_all (λ b. b) terms) (verdicts_view l.verdicts)
