use Rattle.std.proofs.Common.{◌≡◌, ◌++◌, drop, map}
use Rattle.schema.specs.Values.{view}
use Rattle.gather.specs.Parts.{parts_view}
use Rattle.gather.proofs.part.key_of_parts.Given as goal

-- what is made and what is left are the key
abbrev pub invariant-loop-part : goal.invariant-loop-part
invariant-loop-part l = map view l.values.items ++ parts_view (drop l.part-index l.parts) ≡ parts_view l.parts
