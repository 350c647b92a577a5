use Rattle.std.proofs.Common.{◌≡◌, ◌≤◌, ◌-◌, ◌*◌, ◌^◌, pos, ◌-ℤ◌}
use Rattle.jiff_core.specs.Calendar.{IsBetween}
use Rattle.arrayvec.specs.ArrayVec.{array_vec_len}
use Rattle.valuetext.specs.TwosComplement.{signed_after, AreByteValues}
use Rattle.valuetext.proofs.ByteNumbers.{IsNeeded}
use Rattle.valuetext.proofs.twos_complement.shortest_bytes_of.Given as goal

abbrev pub invariant-bytes : goal.invariant-bytes
invariant-bytes l = record {
  same : signed_after l.rest l.bytes.items ≡ l.initial.rest;
  count : array_vec_len l.bytes ≡ l.counter;
  all : AreByteValues l.bytes.items;
  needed : IsNeeded l.rest l.bytes.items;
  within : IsBetween (pos 0 -ℤ pos (128 * 256 ^ (15 - l.counter))) (pos (128 * 256 ^ (15 - l.counter)) -ℤ pos 1) l.rest;
}
