use Rattle.std.proofs.Common.{◌≡◌, ◌≤◌, length, map}
use Rattle.std.specs.Prelude.{All}
use Rattle.std.specs.Vec.{vec_len}
use Rattle.delta.proofs.Cutting.{IsCutting}
use Rattle.delta.proofs.lengths.cut_values.Given as goal

abbrev pub invariant-loop-announced : goal.invariant-loop-announced
invariant-loop-announced g l = record {
  within : l.at ≤ length l.bytes;
  count : vec_len l.values ≡ l.announced-index;
  made : All g.T.Holds.IsMade l.values.items;
  cutting : IsCutting l.lengths l.bytes (map g.T.Holds.held l.values.items) l.at l.announced-index;
}
