use Rattle.std.proofs.Common.{◌≡◌, ℤ, ◌||◌, drop}
use Rattle.std.specs.List.{list_any}
use Rattle.std.specs.Ordering.{int_eq}
use Rattle.schema.specs.Values.{integer, views}
use Rattle.filter.specs.Same.{same, one_passes}
use Rattle.filter.proofs.listed.numbers_in.Given as goal

-- a number is in the set or among the items that remain exactly when it is among all
abbrev pub invariant-loop-item : goal.invariant-loop-item
invariant-loop-item l = (z : ℤ) → (list_any (int_eq z) l.numbers.keys || one_passes (same (integer z)) (views (drop l.item-index l.item-items))) ≡ one_passes (same (integer z)) (views l.item-items)
