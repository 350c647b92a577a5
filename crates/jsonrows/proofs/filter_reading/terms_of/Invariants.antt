use Rattle.std.proofs.Common.{◌≡◌, drop, map}
use Rattle.serde_json.specs.View.{view}
use Rattle.schema.specs.Views.{leaf_view}
use Rattle.filter.specs.Terms.{term_view, each_of}
use Rattle.jsonrows.specs.Filters.{term_of_as}
use Rattle.filter.proofs.Made.{before}
use Rattle.jsonrows.proofs.filter_reading.terms_of.Given as goal

abbrev pub invariant-loop-item : goal.invariant-loop-item
invariant-loop-item l = before (map term_view l.terms.items) (each_of (term_of_as l.texts (map leaf_view l.leaves)) (map view (drop l.item-index l.items))) ≡ each_of (term_of_as l.texts (map leaf_view l.leaves)) (map view l.items)
