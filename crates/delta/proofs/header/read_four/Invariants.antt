use Rattle.std.proofs.Common.{◌≡◌, ◌≤◌, length, take}
use Rattle.bits.specs.Varint.{IsUleb}
use Rattle.bits.proofs.Turns.{Turning}
use Rattle.delta.proofs.header.read_four.Given as goal

abbrev pub invariant-loop-i : goal.invariant-loop-i
invariant-loop-i l = record {
  count : length l.numbers ≡ 4;
  within : l.at ≤ length l.bytes;
  turning : Turning IsUleb 4 l.bytes l.i l.at (take l.i l.numbers);
}
