use Rattle.std.proofs.Common.{◌≡◌, drop, map}
use Rattle.filter.specs.Terms.{each_of}
use Rattle.filter.proofs.Made.{before}
use Rattle.serde_json.specs.View.{view}
use Rattle.schema.specs.Views.{row_view}
use Rattle.jsonrows.specs.Calls.{row_in_as}
use Rattle.jsonrows.proofs.call_members.rows_in.Given as goal

-- what is made so far, before what is left
abbrev pub invariant-loop-item : goal.invariant-loop-item
invariant-loop-item l = before (map row_view l.rows.items) (each_of (row_in_as l.texts l.schema) (map view (drop l.item-index l.items))) ≡ each_of (row_in_as l.texts l.schema) (map view l.items)
