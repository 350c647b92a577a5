use Rattle.std.proofs.Common.{◌-◌, length, map}
use Rattle.delta.specs.inner.Put.{Extends}
use Rattle.delta.proofs.Putting.{IsWriting}
use Rattle.delta.proofs.WrittenBlocks.{AreBegun}
use Rattle.delta.proofs.writing.put_values.Given as goal

abbrev pub invariant-blocks-2 : goal.invariant-blocks-2
invariant-blocks-2 g l = record {
  writing : IsWriting g.T.Integer.width (map g.T.Integer.seen l.values) l.initial.out.items l.out.items l.at;
  begun : AreBegun g.T.Integer.width (map g.T.Integer.seen l.values) l.initial.out.items l.out.items l.at;
  front : Extends l.fn.out.items l.out.items;
}

abbrev pub decreases-blocks-2 : goal.decreases-blocks-2
decreases-blocks-2 g l = length l.values - l.at
