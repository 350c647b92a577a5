use Rattle.std.proofs.Common.{◌≡◌, map, take, replicate}
use Rattle.std.specs.Prelude.{slice_index}
use Rattle.hybrid_rle.proofs.writing.count_equal.Given as goal

abbrev pub invariant-loop-i : goal.invariant-loop-i
invariant-loop-i g l = take l.i (map g.T.Number.seen l.numbers) ≡ replicate l.i (slice_index (map g.T.Number.seen l.numbers) 0)
