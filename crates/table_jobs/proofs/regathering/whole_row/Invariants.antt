use Rattle.std.proofs.Common.{◌≤◌, map}
use Rattle.schema.specs.Values.{ValueTrees, view}
use Rattle.schema.specs.Views.{key_view, row_view}
use Rattle.schema.specs.Keys.{IsRowOf, key_columns_view}
use Rattle.table_jobs.proofs.WholeRows.{IsMade}
use Rattle.table_jobs.proofs.regathering.whole_row.Given as goal

-- the first values are made
abbrev pub invariant-loop-place : goal.invariant-loop-place
invariant-loop-place l = record {
  short : l.next ≤ l.place;
  made : (whole : ValueTrees) (is : IsRowOf (key_columns_view l.columns) (key_view l.key) (row_view l.stored) whole)
      → IsMade (key_columns_view l.columns) (key_view l.key) (row_view l.stored) whole is l.place l.next (map view l.values.items);
}
