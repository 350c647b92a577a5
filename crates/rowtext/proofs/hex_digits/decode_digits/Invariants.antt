use Rattle.std.proofs.Common.{◌≡◌, ◌*◌, ◌++◌, take, drop}
use Rattle.rowtext.specs.inner.LowerDigits.{bytes_of_pairs}
use Rattle.rowtext.proofs.hex_digits.decode_digits.Given as goal

abbrev pub invariant-loop-i : goal.invariant-loop-i
invariant-loop-i l = take l.i l.bytes ++ bytes_of_pairs (drop (2 * l.i) l.digits) ≡ bytes_of_pairs l.digits
