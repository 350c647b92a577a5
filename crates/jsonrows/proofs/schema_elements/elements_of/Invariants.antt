use Rattle.std.proofs.Common.{◌≡◌, ◌++◌, List, length}
use Rattle.std.specs.Vec.Iter.{into_iter_items, into_iter_len}
use Rattle.schema.specs.Elements.{Element, elements_view}
use Rattle.jsonrows.specs.inner.SchemaReading.{AreElementsOf}
use Rattle.jsonrows.specs.inner.SchemaViews.{saids}
use Rattle.jsonrows.proofs.schema_elements.elements_of.Given as goal

-- the elements so far, and those of what is left, are all; where all have elements, so has what is left
abbrev pub invariant-loop-said : goal.invariant-loop-said
invariant-loop-said l =
    ((left : List Element) → AreElementsOf (saids (into_iter_items l.said-iterator)) left → AreElementsOf (saids (into_iter_items l.initial.said-iterator)) (elements_view l.elements.items ++ left))
    × (into_iter_len l.said-iterator ≡ length (into_iter_items l.said-iterator))
    × ((es : List Element) → AreElementsOf (saids (into_iter_items l.initial.said-iterator)) es → (left : List Element) × AreElementsOf (saids (into_iter_items l.said-iterator)) left)
