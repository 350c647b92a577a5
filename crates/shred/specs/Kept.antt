-- What columns show that own the bytes of their values.
use Rattle.std.specs.Prelude.{List, ◌++◌, take}
use Rattle.schema.specs.Stripe.{Entry}
use Rattle.plain.specs.Flat.{flat_entries}
use Rattle.shred.specs.declared.kept_column.KeptColumn.{KeptColumn}
use Rattle.shred.specs.Slots.{entries_in}
use Rattle.shred.specs.Waiting.{waiting, waiting_marked}
use Rattle.shred.specs.inner.Roomy.{list_of}
use Rattle.shred.specs.inner.Packed.{unpacked_each, absent}

-- the entries that do not wait in PLAIN: the last ones are without value
abbrev pub others_view : KeptColumn → List Entry
others_view c = entries_in (list_of c.bytes) (unpacked_each (list_of c.entries)) ++ absent c.run

-- the entries that a column shows: first the values in PLAIN, then the others
abbrev pub kept_view : KeptColumn → List Entry
kept_view c = flat_entries (waiting c.plain) ++ others_view c

-- the entries that a column showed when it was marked
abbrev pub marked_view : KeptColumn → List Entry
marked_view c = flat_entries (waiting_marked c.plain)
    ++ (entries_in (take c.marked_bytes (list_of c.bytes)) (unpacked_each (take c.marked (list_of c.entries))) ++ absent c.marked_run)
