use Rattle.std.proofs.Common.{◌<◌, ◌≤◌, map}
use Rattle.std.specs.Vec.{vec_len}
use Rattle.delta.proofs.Gathering.{IsGathering}
use Rattle.delta.proofs.reading.decode.Given as goal

abbrev pub invariant-blocks-2 : goal.invariant-blocks-2
invariant-blocks-2 g l = record {
  some : 0 < vec_len l.values;
  few : vec_len l.values ≤ l.n;
  gathering : IsGathering g.T.Integer.width l.header.first l.header.miniblocks l.header.size l.initial.needed l.n l.body (map g.T.Integer.seen l.values.items) l.needed l.at;
}

abbrev pub decreases-blocks-2 : goal.decreases-blocks-2
decreases-blocks-2 g l = l.needed
