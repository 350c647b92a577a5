use Rattle.std.proofs.Common.{◌≡◌, ◌≤◌, ◌+◌, length, true, drop}
use Rattle.schema.specs.Elements.{elements_view}
use Rattle.schema.specs.Listing.{count_branches}
use Rattle.schema.specs.inner.Reading.{forest, well_formed}
use Rattle.schema.proofs.reading.count_trees.Given as goal

-- the trees of what stands behind the place
abbrev pub invariant-loop-at : goal.invariant-loop-at
invariant-loop-at l = record {
  in_range : l.trees + l.at ≤ length l.elements;
  trees : l.trees ≡ count_branches (forest (elements_view (drop l.at l.elements)));
  well : well_formed (elements_view (drop l.at l.elements)) ≡ true;
}

abbrev pub decreases-loop-at : goal.decreases-loop-at
decreases-loop-at l = l.at
