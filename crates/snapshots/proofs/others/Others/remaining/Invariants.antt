use Rattle.std.proofs.Common.{◌≡◌, ◌++◌, ◌&&◌, not, drop}
use Rattle.std.specs.Prelude.{filter}
use Rattle.snapshots.specs.inner.Found.{came, has}
use Rattle.snapshots.specs.inner.Spells.{Other, others_view, others_of_blocks, others_in, is_free}
use Rattle.snapshots.proofs.others.Others.remaining.Given as goal

abbrev pub invariant-loop-block : goal.invariant-loop-block
invariant-loop-block l = others_view l.out.items ++ filter (λ (o : Other). not (has l.gone o.file && is_free (came l.current) (has l.pinned) o.file)) (others_of_blocks (drop l.block-index l.block-items)) ≡ filter (λ (o : Other). not (has l.gone o.file && is_free (came l.current) (has l.pinned) o.file)) (others_in l.self)
