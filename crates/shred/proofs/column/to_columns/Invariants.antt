use Rattle.std.proofs.Common.{◌≡◌, map, take}
use Rattle.schema.specs.Views.{column_view}
use Rattle.shred.specs.Columns.{column_ref_view}
use Rattle.shred.proofs.column.to_columns.Given as goal

abbrev pub invariant-loop-column : goal.invariant-loop-column
invariant-loop-column l = map column_view l.owned.items ≡ map column_ref_view (take l.column-index l.columns)
