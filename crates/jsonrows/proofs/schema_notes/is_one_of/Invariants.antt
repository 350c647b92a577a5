use Rattle.std.proofs.Common.{◌≡◌, drop, map}
use Rattle.jsonrows.specs.SchemaJson.{is_one_of}
use Rattle.jsonrows.proofs.schema_notes.is_one_of.Given as goal

-- the names that are left give the answer
abbrev pub invariant-loop-known : goal.invariant-loop-known
invariant-loop-known l = is_one_of (map (λ n. n.now) (drop l.known-index l.names)) l.name ≡ is_one_of (map (λ n. n.now) l.names) l.name
