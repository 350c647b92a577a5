use Rattle.std.proofs.Common.{◌≡◌, drop}
use Rattle.schema.specs.Borrowed.{value_ref_view}
use Rattle.schema.specs.Values.{views}
use Rattle.filter.specs.Same.{same, one_passes}
use Rattle.filter.proofs.equality.is_among.Given as goal

-- the answer for the items that are left is that for all
abbrev pub invariant-loop-item : goal.invariant-loop-item
invariant-loop-item l = one_passes (same (value_ref_view l.value)) (views (drop l.item-index l.item-items)) ≡ one_passes (same (value_ref_view l.value)) (views l.item-items)
