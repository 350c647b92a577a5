use Rattle.std.proofs.Common.{◌≡◌, drop, map}
use Rattle.serde_json.specs.View.{view}
use Rattle.filter.specs.Terms.{each_of}
use Rattle.filter.proofs.Made.{before}
use Rattle.jsonrows.specs.Calls.{natural_of}
use Rattle.jsonrows.proofs.call_members.naturals_in.Given as goal

-- what is made so far, before what is left
abbrev pub invariant-loop-item : goal.invariant-loop-item
invariant-loop-item l = before l.numbers.items (each_of natural_of (map view (drop l.item-index l.items))) ≡ each_of natural_of (map view l.items)
