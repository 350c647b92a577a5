use Rattle.std.proofs.Common.{◌≡◌, ◌*◌, ◌≤◌, length, map}
use Rattle.bits.specs.Bits.{IsPacked}
use Rattle.bits.proofs.lanes.unpack_blocks.Given as goal

abbrev pub invariant-loop : goal.invariant-loop
invariant-loop g l = record { packed : IsPacked l.bytes l.width (map g.T.Kept.seen l.numbers.items); used : 8 * l.at ≡ length l.numbers.items * l.width; count : length l.numbers.items ≡ 8 * l.counter; within : l.at ≤ length l.bytes }
