use Rattle.std.proofs.Common.{◌≡◌, ◌++◌, drop, map}
use Rattle.std.specs.Prelude.{filter}
use Rattle.manifest.specs.Groups.{handles_view}
use Rattle.snapshots.specs.State.{files_of}
use Rattle.snapshots.specs.inner.Found.{came, has}
use Rattle.snapshots.specs.inner.Spells.{Other, others_view, is_free}
use Rattle.snapshots.proofs.other.push_unneeded.Given as goal

abbrev pub invariant-loop-other : goal.invariant-loop-other
invariant-loop-other l = files_of (handles_view l.out.items) ++ map (λ (o : Other). o.file) (filter (λ (o : Other). is_free (came l.current) (has l.pinned) o.file) (others_view (drop l.other-index l.others))) ≡ files_of (handles_view l.initial.out.items) ++ map (λ (o : Other). o.file) (filter (λ (o : Other). is_free (came l.current) (has l.pinned) o.file) (others_view l.others))
