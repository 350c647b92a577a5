use Rattle.std.proofs.Common.{◌≡◌}
use Rattle.shred.specs.Columns.{column_refs_view}
use Rattle.shred.specs.inner.Growing.{nils}
use Rattle.shred.proofs.rows.empty_columns.Given as goal

abbrev pub invariant-loop : goal.invariant-loop
invariant-loop l = column_refs_view l.columns.items ≡ nils l.counter
