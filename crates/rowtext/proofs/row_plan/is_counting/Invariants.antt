use Rattle.std.proofs.Common.{◌≡◌, drop}
use Rattle.rowtext.specs.inner.Slots.{is_counting}
use Rattle.rowtext.proofs.row_plan.is_counting.Given as goal

abbrev pub invariant-loop-i : goal.invariant-loop-i
invariant-loop-i l = is_counting l.i (drop l.i l.numbers) ≡ is_counting 0 l.numbers
