use Rattle.std.proofs.Common.{◌≡◌, ℕ, List, ◌||◌, drop}
use Rattle.std.specs.List.{list_any}
use Rattle.schema.specs.Values.{bytes, views}
use Rattle.filter.specs.Same.{same, one_passes}
use Rattle.filter.specs.inner.Sets.{is_text}
use Rattle.filter.proofs.listed.texts_in.Given as goal

-- a byte string is in the set or among the items that remain exactly when it is among all
abbrev pub invariant-loop-item : goal.invariant-loop-item
invariant-loop-item l = (text : List ℕ) → (list_any (is_text text) l.texts.keys || one_passes (same (bytes text)) (views (drop l.item-index l.item-items))) ≡ one_passes (same (bytes text)) (views l.item-items)
