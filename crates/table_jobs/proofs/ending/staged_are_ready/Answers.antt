use Rattle.table_jobs.proofs.StagedCommitTables.{staged_are_ready}
use Rattle.table_jobs.proofs.ending.staged_are_ready.Goals as goal

pub returns : goal.returns
returns g c = record { ready = staged_are_ready g.D.Disk.state }
