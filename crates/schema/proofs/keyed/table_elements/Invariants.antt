use Rattle.std.proofs.Common.{◌≡◌, List, drop}
use Rattle.schema.specs.Elements.{Element, elements_view}
use Rattle.schema.specs.Listed.{listings, elements_of}
use Rattle.schema.specs.Keys.{key_columns_view}
use Rattle.schema.specs.Fronts.{fields_after}
use Rattle.schema.specs.inner.Keyed.{IsMade}
use Rattle.schema.proofs.keyed.table_elements.Given as goal

abbrev pub invariant-loop-place : goal.invariant-loop-place
invariant-loop-place l = record {
  made : IsMade (key_columns_view l.keys) l.stored l.place l.next (elements_view l.elements.items) l.total;
  from : (es : List Element) → es ≡ elements_of l.stored → drop l.from es ≡ listings (fields_after l.next l.stored);
}
