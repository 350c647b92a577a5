use Rattle.std.proofs.Common.{◌≡◌, ◌++◌, ◌&&◌, not, drop}
use Rattle.std.specs.Prelude.{filter}
use Rattle.snapshots.specs.inner.Found.{came, has}
use Rattle.snapshots.specs.inner.Spells.{Other, others_view, is_free}
use Rattle.snapshots.proofs.other.push_remaining.Given as goal

abbrev pub invariant-loop-other : goal.invariant-loop-other
invariant-loop-other l = others_view l.out.items ++ filter (λ (o : Other). not (has l.gone o.file && is_free (came l.current) (has l.pinned) o.file)) (others_view (drop l.other-index l.others)) ≡ others_view l.initial.out.items ++ filter (λ (o : Other). not (has l.gone o.file && is_free (came l.current) (has l.pinned) o.file)) (others_view l.others)
