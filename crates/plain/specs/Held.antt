-- What an entry of a column holds: parquet-format, "Nested Encoding".
use Rattle.std.specs.Prelude.{◌≡◌, option_map, unwrap_or, Some}
use Rattle.schema.specs.declared.row.Entry.{Entry as CodeEntry}
use Rattle.schema.specs.Values.{ValueTree, null, view}
use Rattle.schema.specs.Views.{entry_view}

-- the value of an entry, null where it is missing
abbrev pub entry_value : CodeEntry → ValueTree
entry_value e = unwrap_or (option_map view e.value) null

-- the entry of a value of a leaf without levels: both levels are 0, and the value is there
abbrev pub IsValueAlone : CodeEntry → Type 0
IsValueAlone e = entry_view e ≡ record { repetition = 0; definition = 0; value = Some (entry_value e) }
