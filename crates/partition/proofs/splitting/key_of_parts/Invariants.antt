use Rattle.std.proofs.Common.{◌≡◌, ◌++◌, drop, map}
use Rattle.schema.specs.Values.{view}
use Rattle.partition.specs.inner.Parts.{parts_view}
use Rattle.partition.proofs.splitting.key_of_parts.Given as goal

-- what is copied and what is left make the key
abbrev pub invariant-loop-part : goal.invariant-loop-part
invariant-loop-part l = map view l.values.items ++ parts_view (drop l.part-index l.parts) ≡ parts_view l.parts
