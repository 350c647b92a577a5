use Rattle.std.proofs.Common.{◌≡◌, ◌++◌, drop, map}
use Rattle.std.specs.Rc.{rc_str_bytes}
use Rattle.serde_json.specs.Data.{string}
use Rattle.serde_json.specs.View.{view}
use Rattle.jsonrows.proofs.group_columns.names_json.Given as goal

-- the names so far, and those that are left
abbrev pub invariant-loop-name : goal.invariant-loop-name
invariant-loop-name l = map view l.all.items ++ map string (map rc_str_bytes (drop l.name-index l.names)) ≡ map string (map rc_str_bytes l.names)
