use Rattle.thrift_compact.proofs.Again.{stands_again, is_again}
use Rattle.thrift_compact.proofs.laws.what_is_written_is_read_again.Goals as goal

pub returns-clause-stands : goal.returns-clause-stands
returns-clause-stands c = stands_again

pub returns-clause-alone : goal.returns-clause-alone
returns-clause-alone c = is_again
