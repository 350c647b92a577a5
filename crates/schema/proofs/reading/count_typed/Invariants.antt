use Rattle.std.proofs.Common.{◌≡◌, ◌≤◌, ◌+◌, drop}
use Rattle.schema.specs.Elements.{elements_view}
use Rattle.schema.specs.Listing.{count_typed}
use Rattle.schema.proofs.reading.count_typed.Given as goal

-- the count so far, and that of the rest, are that of all
abbrev pub invariant-loop-element : goal.invariant-loop-element
invariant-loop-element l = record {
  all : l.count + count_typed (elements_view (drop l.element-index l.elements)) ≡ count_typed (elements_view l.elements);
  small : l.count ≤ l.element-index;
}
