use Rattle.std.proofs.Common.{◌≡◌, ◌++◌, drop}
use Rattle.std.specs.Prelude.{filter}
use Rattle.snapshots.specs.inner.Found.{came}
use Rattle.snapshots.specs.inner.Held.{work_in, job_numbers}
use Rattle.snapshots.specs.inner.Spells.{others_view, stays}
use Rattle.snapshots.proofs.other.push_kept.Given as goal

abbrev pub invariant-loop-other : goal.invariant-loop-other
invariant-loop-other l = others_view l.out.items ++ filter (stays (came l.next) (job_numbers (work_in l.jobs))) (others_view (drop l.other-index l.others)) ≡ others_view l.initial.out.items ++ filter (stays (came l.next) (job_numbers (work_in l.jobs))) (others_view l.others)
