use Rattle.std.proofs.Common.{◌≡◌, drop, map}
use Rattle.serde_json.specs.View.{view}
use Rattle.schema.specs.Views.{leaf_view}
use Rattle.filter.specs.Terms.{terms_view, each_of}
use Rattle.jsonrows.specs.Filters.{and_of_as}
use Rattle.filter.proofs.Made.{before}
use Rattle.jsonrows.proofs.filter_reading.ands_of.Given as goal

abbrev pub invariant-loop-item : goal.invariant-loop-item
invariant-loop-item l = before (terms_view l.ands.items) (each_of (and_of_as l.texts (map leaf_view l.leaves)) (map view (drop l.item-index l.items))) ≡ each_of (and_of_as l.texts (map leaf_view l.leaves)) (map view l.items)
