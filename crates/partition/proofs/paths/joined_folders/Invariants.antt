use Rattle.std.proofs.Common.{◌≡◌, ◌++◌, drop, map, string_bytes}
use denote.Text.{Utf8}
use denote.Shadow.{shadow}
use Rattle.std.specs.List.{join_with_byte}
use Rattle.schema.specs.Values.{view}
use Rattle.schema.specs.Keys.{key_columns_view}
use Rattle.partition.specs.Folders.{folders}
use Rattle.partition.specs.inner.Checks.{joined}
use Rattle.partition.proofs.paths.joined_folders.Given as goal

-- what is written and what is left make the path
abbrev pub invariant-loop-i : goal.invariant-loop-i
invariant-loop-i l = shadow (Utf8 l.separator) × (string_bytes l.path ++ joined l.separator (folders (key_columns_view (drop l.i l.columns)) (map view (drop l.i l.values))) ≡ join_with_byte 47 (folders (key_columns_view l.columns) (map view l.values)))
