use Rattle.std.proofs.Common.{◌≡◌, drop, map}
use Rattle.serde_json.specs.View.{view}
use Rattle.std.specs.Prelude.{option_map}
use Rattle.schema.specs.Values.{view as value_view}
use Rattle.schema.specs.Views.{leaf_type_view}
use Rattle.filter.specs.Terms.{each_of}
use Rattle.jsonrows.specs.Filters.{value_of_as}
use Rattle.filter.proofs.Made.{before}
use Rattle.jsonrows.proofs.filter_reading.+values.Given as goal

abbrev pub invariant-values_of-loop-item : goal.invariant-values_of-loop-item
invariant-values_of-loop-item l = before (map value_view l.values.items) (each_of (value_of_as l.texts (option_map (λ t. leaf_type_view t.now) l.leaf_type)) (map view (drop l.item-index l.items))) ≡ each_of (value_of_as l.texts (option_map (λ t. leaf_type_view t.now) l.leaf_type)) (map view l.items)
