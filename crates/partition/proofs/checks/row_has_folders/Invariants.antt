use Rattle.std.proofs.Common.{◌≡◌, drop}
use Rattle.schema.specs.Views.{row_view}
use Rattle.schema.specs.Keys.{key_columns_view, key_of_row}
use Rattle.partition.specs.inner.Checks.{have_folders}
use Rattle.partition.proofs.checks.row_has_folders.Given as goal

-- the answer for the columns that are left is that for all
abbrev pub invariant-loop-column : goal.invariant-loop-column
invariant-loop-column l = have_folders (key_columns_view (drop l.column-index l.columns)) (key_of_row (key_columns_view (drop l.column-index l.columns)) (row_view l.row)) ≡ have_folders (key_columns_view l.columns) (key_of_row (key_columns_view l.columns) (row_view l.row))
