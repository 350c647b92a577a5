use Rattle.rowtext.proofs.RowsBack.{rows_read_back_as}
use Rattle.rowtext.proofs.laws.rows_read_back_as.Goals as goal

pub returns : goal.returns
returns c = rows_read_back_as
