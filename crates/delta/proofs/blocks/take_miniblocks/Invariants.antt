use Rattle.std.proofs.Common.{◌<◌, map}
use Rattle.std.specs.Vec.{vec_len}
use Rattle.delta.proofs.Taking.{IsReading}
use Rattle.delta.proofs.blocks.take_miniblocks.Given as goal

abbrev pub invariant-loop-width : goal.invariant-loop-width
invariant-loop-width g l = record {
  some : 0 < vec_len l.values;
  reading : IsReading g.T.Integer.width l.least l.size l.widths l.bytes l.left (map g.T.Integer.seen l.fn.values.items) (map g.T.Integer.seen l.values.items) l.at l.rest l.width-index;
}
