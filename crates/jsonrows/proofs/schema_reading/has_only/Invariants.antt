use Rattle.std.proofs.Common.{◌≡◌, map}
use Rattle.serde_json.specs.View.{members_view}
use Rattle.jsonrows.specs.SchemaJson.{are_called}
use Rattle.jsonrows.proofs.schema_reading.has_only.Given as goal

-- the members that are left give the answer
abbrev pub invariant-loop-name : goal.invariant-loop-name
invariant-loop-name l = are_called (map (λ n. n.now) l.names) (members_view l.name-iterator) ≡ are_called (map (λ n. n.now) l.names) (members_view l.initial.name-iterator)
