use Rattle.rowtext.proofs.RowsBack.{rows_read_back}
use Rattle.rowtext.proofs.laws.rows_read_back.Goals as goal

pub returns : goal.returns
returns c = rows_read_back
