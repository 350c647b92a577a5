use Rattle.std.proofs.Common.{◌≡◌, drop}
use Rattle.schema.specs.Keys.{key_columns_view}
use Rattle.schema.specs.Views.{rows_view}
use Rattle.partition.specs.Folders.{AreKeyColumns}
use Rattle.table.specs.Table.{Table}
use Rattle.table.specs.Checks.{rows_fault}
use Rattle.table_state.proofs.checks.check_each.Given as goal

abbrev pub invariant-loop-row : goal.invariant-loop-row
invariant-loop-row l = (t : Table) → t.schema ≡ l.schema → t.keys ≡ key_columns_view l.keys → AreKeyColumns t.keys → rows_fault t (rows_view l.rows) ≡ rows_fault t (rows_view (drop l.row-index l.rows))
