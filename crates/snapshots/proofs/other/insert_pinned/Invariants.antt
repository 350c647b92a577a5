use Rattle.std.proofs.Common.{◌≡◌, ◌||◌, ◌&&◌, drop}
use Rattle.std.specs.List.{list_any}
use Rattle.snapshots.specs.State.{File, is_same}
use Rattle.snapshots.specs.inner.Found.{has}
use Rattle.snapshots.specs.inner.Held.{work_in, job_numbers}
use Rattle.snapshots.specs.inner.Spells.{Other, others_view, is_pinned}
use Rattle.snapshots.proofs.other.insert_pinned.Given as goal

abbrev pub invariant-loop-other : goal.invariant-loop-other
invariant-loop-other l = (f : File) → (has l.files f || list_any (λ (o : Other). is_same o.file f && is_pinned l.ats (job_numbers (work_in l.jobs)) o) (others_view (drop l.other-index l.others))) ≡ (has l.initial.files f || list_any (λ (o : Other). is_same o.file f && is_pinned l.ats (job_numbers (work_in l.jobs)) o) (others_view l.others))
