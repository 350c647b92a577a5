use Rattle.std.proofs.Common.{◌≡◌, ◌++◌, drop}
use Rattle.schema.specs.Views.{row_view}
use Rattle.schema.specs.Keys.{key_columns_view, key_of_row}
use Rattle.partition.specs.inner.Parts.{parts_view}
use Rattle.partition.proofs.splitting.parts_of.Given as goal

-- what is taken and what is left make the key
abbrev pub invariant-loop-column : goal.invariant-loop-column
invariant-loop-column l = parts_view l.parts.items ++ key_of_row (key_columns_view (drop l.column-index l.columns)) (row_view l.row) ≡ key_of_row (key_columns_view l.columns) (row_view l.row)
