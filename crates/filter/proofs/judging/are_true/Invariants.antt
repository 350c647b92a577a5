use Rattle.std.proofs.Common.{◌≡◌, drop}
use Rattle.std.specs.List.{list_all}
use Rattle.filter.proofs.judging.are_true.Given as goal

abbrev pub invariant-loop-verdict : goal.invariant-loop-verdict
invariant-loop-verdict l = list_all (λ b. b) (drop l.verdict-index l.verdicts) ≡ list_all (λ b. b) l.verdicts
