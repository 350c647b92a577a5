use Rattle.std.proofs.Common.{◌≡◌, drop}
use Rattle.std.specs.Rc.{rc_value}
use Rattle.snapshots.specs.State.{open_at, sources_in}
use Rattle.snapshots.specs.inner.Held.{work_in}
use Rattle.snapshots.specs.inner.Spells.{others_in}
use Rattle.snapshots.specs.inner.Kept.{jobs_view}
use Rattle.snapshots.proofs.state.Snapshots.has_sources_of.Given as goal

abbrev pub invariant-loop-open : goal.invariant-loop-open
invariant-loop-open l = sources_in (open_at l.number (jobs_view (others_in l.self.others) (work_in (drop l.open-index l.open-items)))) ≡ sources_in (open_at l.number (jobs_view (others_in l.self.others) (work_in (rc_value l.self.jobs).items)))
