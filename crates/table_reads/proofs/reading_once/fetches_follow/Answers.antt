use Rattle.table_reads.proofs.ReadsOfPassedGroups.{fetches_follow}
use Rattle.table_reads.proofs.reading_once.fetches_follow.Goals as goal

pub returns : goal.returns
returns g c = fetches_follow g.D.Disk.state
