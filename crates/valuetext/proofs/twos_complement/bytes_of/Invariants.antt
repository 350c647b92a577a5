use Rattle.std.proofs.Common.{◌≡◌}
use Rattle.arrayvec.specs.ArrayVec.{array_vec_len}
use Rattle.valuetext.specs.TwosComplement.{signed_after, AreByteValues}
use Rattle.valuetext.proofs.twos_complement.bytes_of.Given as goal

abbrev pub invariant-bytes : goal.invariant-bytes
invariant-bytes l = record {
  same : signed_after l.rest l.bytes.items ≡ l.initial.rest;
  count : array_vec_len l.bytes ≡ l.counter;
  all : AreByteValues l.bytes.items;
}
