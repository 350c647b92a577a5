use Rattle.std.proofs.Common.{◌≡◌, length, map}
use Rattle.schema.specs.Values.{view, trees_of}
use Rattle.schema.specs.Views.{row_view}
use Rattle.schema.specs.Fronts.{padded}
use Rattle.table_jobs.proofs.completing.completed_row.Given as goal

-- padded, it is what the row is, padded
abbrev pub invariant-loop : goal.invariant-loop
invariant-loop l = record { same : padded l.stored (trees_of (map view l.values.items)) ≡ padded l.stored (row_view l.row); long : length l.values.items ≡ l.counter }
