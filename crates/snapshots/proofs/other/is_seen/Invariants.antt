use Rattle.std.proofs.Common.{◌≡◌, drop}
use Rattle.snapshots.specs.inner.Spells.{other_view, is_seen}
use Rattle.snapshots.proofs.other.is_seen.Given as goal

abbrev pub invariant-loop-at : goal.invariant-loop-at
invariant-loop-at l = is_seen (drop l.at-index l.ats) (other_view l.other) ≡ is_seen l.ats (other_view l.other)
