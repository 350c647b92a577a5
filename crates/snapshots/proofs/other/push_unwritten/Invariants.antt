use Rattle.std.proofs.Common.{◌≡◌, ◌++◌, drop, map}
use Rattle.snapshots.specs.inner.Spells.{others_view, unwritten_by}
use Rattle.snapshots.proofs.other.push_unwritten.Given as goal

abbrev pub invariant-loop-other : goal.invariant-loop-other
invariant-loop-other l = others_view l.out.items ++ map (unwritten_by l.job) (others_view (drop l.other-index l.others)) ≡ others_view l.initial.out.items ++ map (unwritten_by l.job) (others_view l.others)
