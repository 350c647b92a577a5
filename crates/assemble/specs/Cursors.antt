-- What a cursor stands for.
use Rattle.std.specs.Prelude.{◌≡◌, List, map}
use Rattle.schema.specs.Stripe.{Entry}
use Rattle.schema.specs.Views.{entry_view}
use Rattle.assemble.specs.declared.cursor.Cursor.{Cursor}

-- the entries that a cursor still has to give
abbrev pub entries_left : Cursor → List Entry
entries_left c = map entry_view c.entries.now

-- a cursor stands for the entries that it still has to give, and for no others
abbrev pub cursor_stands : Cursor → List Entry → Type 0
cursor_stands c es = es ≡ entries_left c
