use Rattle.std.proofs.Common.{◌≡◌, ◌++◌, drop}
use Rattle.schema.specs.Views.{rows_view}
use Rattle.table_jobs.specs.Completing.{completed_rows}
use Rattle.table_jobs.proofs.completing.completed_rows.Given as goal

-- what is copied and what is left make all
abbrev pub invariant-loop-row : goal.invariant-loop-row
invariant-loop-row l = rows_view l.copies.items ++ completed_rows l.stored (rows_view (drop l.row-index l.rows)) ≡ completed_rows l.stored (rows_view l.rows)
