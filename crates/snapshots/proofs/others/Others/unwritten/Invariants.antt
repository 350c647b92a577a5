use Rattle.std.proofs.Common.{◌≡◌, ◌++◌, drop, map}
use Rattle.snapshots.specs.inner.Spells.{others_view, others_of_blocks, others_in, unwritten_by}
use Rattle.snapshots.proofs.others.Others.unwritten.Given as goal

abbrev pub invariant-loop-block : goal.invariant-loop-block
invariant-loop-block l = others_view l.out.items ++ map (unwritten_by l.job) (others_of_blocks (drop l.block-index l.block-items)) ≡ map (unwritten_by l.job) (others_in l.self)
