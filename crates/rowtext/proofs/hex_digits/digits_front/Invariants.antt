use Rattle.std.proofs.Common.{◌-◌, ◌≤◌, length}
use Rattle.rowtext.specs.inner.LowerDigits.{DigitsBetween}
use Rattle.rowtext.proofs.hex_digits.digits_front.Given as goal

abbrev pub invariant-loop-at : goal.invariant-loop-at
invariant-loop-at l = (l.at ≤ length l.bytes) × DigitsBetween l.bytes 0 l.at

abbrev pub decreases-loop-at : goal.decreases-loop-at
decreases-loop-at l = length l.bytes - l.at
