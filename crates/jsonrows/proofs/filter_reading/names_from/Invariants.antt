use Rattle.std.proofs.Common.{◌≡◌, drop, map}
use Rattle.serde_json.specs.View.{view}
use Rattle.filter.specs.Terms.{names_of, each_of}
use Rattle.jsonrows.specs.Filters.{name_of}
use Rattle.filter.proofs.Made.{before}
use Rattle.jsonrows.proofs.filter_reading.names_from.Given as goal

abbrev pub invariant-loop-item : goal.invariant-loop-item
invariant-loop-item l = before (names_of l.names.items) (each_of (name_of) (map view (drop l.item-index l.items))) ≡ each_of (name_of) (map view l.items)
