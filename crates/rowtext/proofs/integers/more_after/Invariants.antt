use Rattle.std.proofs.Common.{◌≡◌, ◌<◌, ◌++◌, decimal, drop}
use Rattle.rowtext.proofs.integers.more_after.Given as goal

abbrev pub invariant-loop-at : goal.invariant-loop-at
invariant-loop-at l = (0 < l.number) × (decimal l.number ++ drop l.at l.digits ≡ decimal l.fn.before ++ drop l.fn.from l.digits)
