use Rattle.std.proofs.Common.{◌≡◌, length, drop, ◌↔◌}
use Rattle.schema.specs.Fits.{RowsFit}
use Rattle.schema.specs.Views.{rows_view}
use Rattle.schema.specs.Stripe.{columns, leaves_of}
use Rattle.shred.specs.Columns.{column_refs_view}
use Rattle.shred.specs.inner.Growing.{grown}
use Rattle.shred.proofs.rows.shred.Given as goal

-- with the columns of the rows that are left, the columns are those of all rows; whether these fit is whether all do
abbrev pub invariant-loop-row : goal.invariant-loop-row
invariant-loop-row l = record {
  grown : grown (column_refs_view l.columns.items) (columns l.schema (rows_view (drop l.row-index l.rows))) ≡ columns l.schema (rows_view l.rows);
  fit : RowsFit l.schema (rows_view (drop l.row-index l.rows)) ↔ RowsFit l.schema (rows_view l.rows);
  size : length l.columns.items ≡ length (leaves_of l.schema);
}
