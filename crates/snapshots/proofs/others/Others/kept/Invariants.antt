use Rattle.std.proofs.Common.{◌≡◌, ◌++◌, drop}
use Rattle.std.specs.Prelude.{filter}
use Rattle.snapshots.specs.inner.Found.{came}
use Rattle.snapshots.specs.inner.Held.{work_in, job_numbers}
use Rattle.snapshots.specs.inner.Spells.{others_view, others_of_blocks, others_in, stays}
use Rattle.snapshots.proofs.others.Others.kept.Given as goal

abbrev pub invariant-loop-block : goal.invariant-loop-block
invariant-loop-block l = others_view l.out.items ++ filter (stays (came l.next) (job_numbers (work_in l.jobs))) (others_of_blocks (drop l.block-index l.block-items)) ≡ filter (stays (came l.next) (job_numbers (work_in l.jobs))) (others_in l.self)
