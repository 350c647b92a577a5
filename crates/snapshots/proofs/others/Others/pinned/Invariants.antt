use Rattle.std.proofs.Common.{◌≡◌, ◌||◌, ◌&&◌, drop}
use Rattle.std.specs.List.{list_any}
use Rattle.snapshots.specs.State.{File, is_same}
use Rattle.snapshots.specs.inner.Found.{has}
use Rattle.snapshots.specs.inner.Held.{work_in, job_numbers}
use Rattle.snapshots.specs.inner.Spells.{Other, others_of_blocks, others_in, is_pinned}
use Rattle.snapshots.proofs.others.Others.pinned.Given as goal

abbrev pub invariant-loop-block : goal.invariant-loop-block
invariant-loop-block l = (f : File) → (has l.files f || list_any (λ (o : Other). is_same o.file f && is_pinned l.ats (job_numbers (work_in l.jobs)) o) (others_of_blocks (drop l.block-index l.block-items))) ≡ list_any (λ (o : Other). is_same o.file f && is_pinned l.ats (job_numbers (work_in l.jobs)) o) (others_in l.self)
