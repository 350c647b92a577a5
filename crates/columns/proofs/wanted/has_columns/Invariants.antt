use Rattle.std.proofs.Common.{◌≡◌, drop, map}
use Rattle.std.specs.Prelude.{string_bytes}
use Rattle.std.specs.List.{list_all}
use Rattle.table.specs.Cursors.{is_field}
use Rattle.columns.proofs.wanted.has_columns.Given as goal

abbrev pub invariant-loop-name : goal.invariant-loop-name
invariant-loop-name l = list_all (is_field l.schema) (map string_bytes (drop l.name-index l.names)) ≡ list_all (is_field l.schema) (map string_bytes l.names)
