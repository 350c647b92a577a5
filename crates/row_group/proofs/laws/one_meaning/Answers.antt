use Rattle.row_group.proofs.OneMeaning.{one_column, one_column_of_file, one_list}
use Rattle.row_group.proofs.laws.one_meaning.Goals as goal

pub returns-clause-chunk : goal.returns-clause-chunk
returns-clause-chunk c = one_column c.one_page.ensures.chunk

pub returns-clause-column : goal.returns-clause-column
returns-clause-column c = one_column_of_file (one_column c.one_page.ensures.chunk)

pub returns-clause-group : goal.returns-clause-group
returns-clause-group c = one_list (one_column_of_file (one_column c.one_page.ensures.chunk)) c.columns_determine_rows.ensures
