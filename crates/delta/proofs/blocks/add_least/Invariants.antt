use Rattle.std.proofs.Common.{◌≡◌, ◌<◌, ◌-◌, length, get_or, map, replicate}
use Rattle.std.specs.Prelude.{pos}
use Rattle.delta.specs.inner.Taken.{Adds, deltas_of}
use Rattle.delta.proofs.blocks.add_least.Given as goal

abbrev pub invariant-loop : goal.invariant-loop
invariant-loop g l = record {
  some : 0 < length l.values.items;
  last : get_or (map g.T.Integer.seen l.values.items) (length (map g.T.Integer.seen l.values.items) - 1) (pos 0) ≡ g.T.Integer.seen l.sum;
  added : Adds g.T.Integer.width (deltas_of l.least (replicate l.counter 0)) (map g.T.Integer.seen l.fn.values.items) (map g.T.Integer.seen l.values.items);
}
