use Rattle.std.proofs.Common.{◌≡◌, map, take}
use Rattle.schema.specs.Views.{entry_view}
use Rattle.schema.specs.Borrowed.{entry_ref_view}
use Rattle.shred.proofs.column.ColumnRef.to_column.Given as goal

abbrev pub invariant-loop-entry : goal.invariant-loop-entry
invariant-loop-entry l = map entry_view l.entries.items ≡ map entry_ref_view (take l.entry-index l.self.entries.items)
