use Rattle.std.proofs.Common.{◌≡◌, map, take}
use Rattle.schema.specs.Views.{columns_view}
use Rattle.assemble.specs.Cursors.{entries_left}
use Rattle.table_jobs.proofs.rests.rows_of.Given as goal

-- the first columns have their cursors
abbrev pub invariant-loop-column : goal.invariant-loop-column
invariant-loop-column l = map entries_left l.cursors.items ≡ columns_view (take l.column-index l.column-items)
