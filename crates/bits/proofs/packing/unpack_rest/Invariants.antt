use Rattle.std.proofs.Common.{◌≡◌, ◌+◌, ◌*◌, ◌<◌, length, map}
use Rattle.bits.specs.Bits.{IsPacked}
use Rattle.bits.proofs.packing.unpack_rest.Given as goal

abbrev pub invariant-loop : goal.invariant-loop
invariant-loop g l = record { packed : IsPacked l.bytes l.width (map g.T.Kept.seen l.numbers.items); count : length l.numbers.items ≡ l.counter; in_byte : l.offset < 8; place : 8 * l.at + l.offset ≡ l.counter * l.width }
