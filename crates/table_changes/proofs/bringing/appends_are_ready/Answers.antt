use Rattle.table_commits.proofs.AppendCommits.{appends_are_ready}
use Rattle.table_changes.proofs.bringing.appends_are_ready.Goals as goal

pub returns : goal.returns
returns g c = record { ready = appends_are_ready g.D.Disk.state }
