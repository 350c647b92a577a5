use Rattle.assemble.proofs.FlatRows.{flat_columns_have_rows}
use Rattle.assemble.proofs.flat.flat_columns_have_rows.Goals as goal

pub returns : goal.returns
returns c = flat_columns_have_rows
