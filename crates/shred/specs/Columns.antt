-- What a borrowed column shows, apart from where its values lie in memory.
use Rattle.std.specs.Prelude.{List, map}
use Rattle.schema.specs.Stripe.{Entry}
use Rattle.schema.specs.Borrowed.{entry_ref_view}
use Rattle.shred.specs.declared.column.ColumnRef.{ColumnRef}

-- the entries of a borrowed column
abbrev pub column_ref_view : ColumnRef → List Entry
column_ref_view c = map entry_ref_view c.entries.items

-- the entries of each of some borrowed columns
abbrev pub column_refs_view : List ColumnRef → List (List Entry)
column_refs_view cs = map column_ref_view cs
