use Rattle.std.proofs.Common.{◌≡◌, ◌++◌, drop}
use Rattle.snapshots.specs.inner.Spells.{others_view}
use Rattle.snapshots.proofs.other.push_others.Given as goal

abbrev pub invariant-loop-other : goal.invariant-loop-other
invariant-loop-other l = others_view l.out.items ++ others_view (drop l.other-index l.others) ≡ others_view l.initial.out.items ++ others_view l.others
