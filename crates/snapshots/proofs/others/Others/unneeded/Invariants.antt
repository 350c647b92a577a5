use Rattle.std.proofs.Common.{◌≡◌, ◌++◌, drop, map}
use Rattle.std.specs.Prelude.{filter}
use Rattle.manifest.specs.Groups.{handles_view}
use Rattle.snapshots.specs.State.{files_of}
use Rattle.snapshots.specs.inner.Found.{came, has}
use Rattle.snapshots.specs.inner.Spells.{Other, others_of_blocks, others_in, is_free}
use Rattle.snapshots.proofs.others.Others.unneeded.Given as goal

abbrev pub invariant-loop-block : goal.invariant-loop-block
invariant-loop-block l = files_of (handles_view l.out.items) ++ map (λ (o : Other). o.file) (filter (λ (o : Other). is_free (came l.current) (has l.pinned) o.file) (others_of_blocks (drop l.block-index l.block-items))) ≡ map (λ (o : Other). o.file) (filter (λ (o : Other). is_free (came l.current) (has l.pinned) o.file) (others_in l.self))
