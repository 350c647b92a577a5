use Rattle.std.proofs.Common.{◌≡◌, ◌≤◌, ◌+◌, ◌-◌, true, drop}
use Rattle.bits.specs.declared.refusal.Refusal.{Refusal}
use Rattle.schema.specs.Elements.{elements_view}
use Rattle.schema.specs.Shape.{Fields}
use Rattle.schema.specs.Views.{field_views}
use Rattle.schema.specs.Listing.{count_branches}
use Rattle.schema.specs.inner.Reading.{forest, well_formed, take_branches, drop_branches, AreRead, IsFaultAmong, join_fields}
use Rattle.schema.proofs.reading.+reading.Given as goal

abbrev pub decreases-read_field : goal.decreases-read_field
decreases-read_field l = l.deep + l.deep

abbrev pub decreases-read_fields : goal.decreases-read_fields
decreases-read_fields l = l.deep + l.deep + 1

-- what is read of the fields that are left completes what is read
abbrev pub invariant-read_fields-loop : goal.invariant-read_fields-loop
invariant-read_fields-loop l = record {
  in_range : l.counter ≤ l.count;
  well : well_formed (elements_view (drop l.at l.elements)) ≡ true;
  enough : l.count - l.counter ≤ count_branches (forest (elements_view (drop l.at l.elements)));
  behind : drop_branches (l.count - l.counter) (forest (elements_view (drop l.at l.elements))) ≡ drop_branches l.count (forest (elements_view (drop l.fn.at l.elements)));
  read : (gs : Fields) → AreRead l.deep (take_branches (l.count - l.counter) (forest (elements_view (drop l.at l.elements)))) gs → AreRead l.deep (take_branches l.count (forest (elements_view (drop l.fn.at l.elements)))) (join_fields (field_views l.fields.items) gs);
  fault : (e : Refusal) → IsFaultAmong l.deep (take_branches (l.count - l.counter) (forest (elements_view (drop l.at l.elements)))) e → IsFaultAmong l.deep (take_branches l.count (forest (elements_view (drop l.fn.at l.elements)))) e;
}
