use Rattle.std.proofs.Common.{◌≡◌, ◌++◌, drop}
use Rattle.gather.specs.Parts.{parts_view}
use Rattle.gather.proofs.part.copied_parts.Given as goal

-- what is copied and what is left are the parts
abbrev pub invariant-loop-part : goal.invariant-loop-part
invariant-loop-part l = parts_view l.copies.items ++ parts_view (drop l.part-index l.parts) ≡ parts_view l.parts
