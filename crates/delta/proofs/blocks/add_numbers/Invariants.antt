use Rattle.std.proofs.Common.{◌≡◌, ◌<◌, ◌-◌, length, get_or, map, take}
use Rattle.std.specs.Prelude.{pos}
use Rattle.delta.specs.inner.Taken.{Adds, deltas_of}
use Rattle.delta.proofs.blocks.add_numbers.Given as goal

abbrev pub invariant-loop-number : goal.invariant-loop-number
invariant-loop-number g l = record {
  some : 0 < length l.values.items;
  last : get_or (map g.T.Integer.seen l.values.items) (length (map g.T.Integer.seen l.values.items) - 1) (pos 0) ≡ g.T.Integer.seen l.sum;
  added : Adds g.T.Integer.width (deltas_of l.least (take l.number-index l.numbers)) (map g.T.Integer.seen l.fn.values.items) (map g.T.Integer.seen l.values.items);
}
