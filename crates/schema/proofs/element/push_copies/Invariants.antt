use Rattle.std.proofs.Common.{◌≡◌, ◌++◌, take}
use Rattle.schema.specs.Elements.{elements_view}
use Rattle.schema.proofs.element.push_copies.Given as goal

abbrev pub invariant-loop-element : goal.invariant-loop-element
invariant-loop-element l = elements_view l.out.items ≡ elements_view l.fn.out.items ++ elements_view (take l.element-index l.elements)
