use Rattle.std.proofs.Common.{◌≡◌, ◌++◌, List, drop}
use Rattle.schema.specs.Elements.{Element, elements_view}
use Rattle.schema.proofs.fronts.begins_with.Given as goal

-- what is left begins so just where all does
abbrev pub invariant-loop-i : goal.invariant-loop-i
invariant-loop-i l = record {
  whole : (later : List Element) → elements_view (drop l.i l.elements) ≡ elements_view (drop l.i l.first) ++ later → elements_view l.elements ≡ elements_view l.first ++ later;
  left : (later : List Element) → elements_view l.elements ≡ elements_view l.first ++ later → elements_view (drop l.i l.elements) ≡ elements_view (drop l.i l.first) ++ later;
}
