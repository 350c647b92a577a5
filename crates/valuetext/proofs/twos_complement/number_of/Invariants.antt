use Rattle.std.proofs.Common.{◌≡◌, ◌*◌, ◌^◌, pos, ◌-ℤ◌, drop}
use Rattle.jiff_core.specs.Calendar.{IsBetween}
use Rattle.valuetext.specs.TwosComplement.{signed_after}
use Rattle.valuetext.proofs.twos_complement.number_of.Given as goal

abbrev pub invariant-loop-byte : goal.invariant-loop-byte
invariant-loop-byte l = record {
  same : signed_after l.number (drop l.byte-index l.rest) ≡ signed_after l.initial.number l.rest;
  within : IsBetween (pos 0 -ℤ pos (128 * 256 ^ l.byte-index)) (pos (128 * 256 ^ l.byte-index) -ℤ pos 1) l.number;
}
