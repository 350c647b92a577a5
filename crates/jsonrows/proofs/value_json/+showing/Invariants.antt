use Rattle.std.proofs.Common.{◌≡◌, ◌++◌, true, drop, map}
use Rattle.serde_json.specs.View.{view, members_view}
use Rattle.schema.specs.Values.{view as value_view, views, each}
use Rattle.schema.specs.Views.{field_view, field_views}
use Rattle.schema.specs.Fits.{fits_inside, fits_each}
use Rattle.rowtext.specs.Json.{inside_json_as, members_json_as}
use Rattle.jsonrows.proofs.value_json.+showing.Given as goal

-- the items so far, and those that are left
abbrev pub invariant-items_json-loop-item : goal.invariant-items_json-loop-item
invariant-items_json-loop-item l = record {
  fit : each (fits_inside (field_view l.field)) (views (drop l.item-index l.items)) ≡ each (fits_inside (field_view l.field)) (views l.items);
  made : map view l.all.items ++ map (λ w. inside_json_as l.texts (field_view l.field) (value_view w)) (drop l.item-index l.items) ≡ map (λ w. inside_json_as l.texts (field_view l.field) (value_view w)) l.items;
}

-- the members so far are those of the last fields
abbrev pub invariant-members_json-loop-i : goal.invariant-members_json-loop-i
invariant-members_json-loop-i l = record {
  fit : fits_each (field_views (drop l.i l.fields)) (views (drop l.i l.values)) ≡ true;
  made : members_view l.members.entries ≡ members_json_as l.texts (field_views (drop l.i l.fields)) (views (drop l.i l.values));
}
