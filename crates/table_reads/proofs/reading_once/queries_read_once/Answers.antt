use Rattle.table_reads.proofs.ReadsOfPassedGroups.{read_once}
use Rattle.table_reads.proofs.reading_once.queries_read_once.Goals as goal

pub returns : goal.returns
returns c = read_once
