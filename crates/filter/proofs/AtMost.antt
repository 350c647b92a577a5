-- Values in the order of a leaf, and what bounds exclude.
use Rattle.std.proofs.Common.{◌≡◌, Bool, true, false, not, Option, Some, None, refl, ap, sym, subst, inl, inr}
use Rattle.std.specs.Prelude.{IfSome}
use Rattle.std.specs.Ordering.{is_lt, is_le, is_gt, is_ge}
use Rattle.std.proofs.lemmas.Bool.{false≢true, false_from_ne_true as not_true, or_cases as either, and_parts as both_true}
use Rattle.schema.specs.declared.order.Order.{Order}
use Rattle.schema.specs.Values.{ValueTree, list, ValueTrees, no_values, value as item, each}
use Rattle.schema.specs.Orders.{IsAtMost, IsBelow}
use Rattle.schema.proofs.AtMost.{from_ge, from_gt, not_back, at_most_same, at_most_below, below_at_most}
use Rattle.statistics.specs.Bounds.{Statistics}
use Rattle.filter.specs.declared.term.Op.{Op}
use Rattle.filter.specs.declared.term.Op.TheVariants as op
use Rattle.filter.proofs.Same.{same_is}
use Rattle.filter.specs.Same.{same, one_passes, is_listed}
use Rattle.filter.specs.Deciding.{passes}
use Rattle.filter.specs.inner.Excluded.{bound_is, is_outside, are_outside, is_only, excludes}

-- ---- what bounds exclude

-- a value within bounds
pub record IsWithin (o : Option Order) (s : Statistics) (v : ValueTree) : Type 0 where
  pub above : IfSome s.min (λ m. IsAtMost o m v)
  pub below : IfSome s.max (λ m. IsAtMost o v m)

apart_low : (o : Option Order) (low : Option ValueTree) (v w : ValueTree) → IfSome low (λ m. IsAtMost o m v) → bound_is is_gt o low w ≡ true → same v w ≡ true → ⊥
apart_low o None v w h out e = false≢true out
apart_low o (Some m) v w h out e = not_back o m v h (subst (λ (x : ValueTree). IsBelow o x m) (sym (same_is v w e)) (from_gt o m w out))

apart_high : (o : Option Order) (high : Option ValueTree) (v w : ValueTree) → IfSome high (λ m. IsAtMost o v m) → bound_is is_lt o high w ≡ true → same v w ≡ true → ⊥
apart_high o None v w h out e = false≢true out
apart_high o (Some m) v w h out e = not_back o v m h (subst (λ (x : ValueTree). IsBelow o m x) (sym (same_is v w e)) out)

outside_apart : (o : Option Order) (s : Statistics) (v w : ValueTree) → IsWithin o s v → is_outside o s w ≡ true → same v w ≡ false
outside_apart o s v w in_bounds out = not_true (same v w) (λ e. elim (either _ _ out) [
  | inl low ↦ apart_low o s.min v w in_bounds.above low e
  | inr high ↦ apart_high o s.max v w in_bounds.below high e
])

none_listed : (o : Option Order) (s : Statistics) (v : ValueTree) (ws : ValueTrees) → IsWithin o s v → each (is_outside o s) ws ≡ true → one_passes (same v) ws ≡ false
none_listed o s v no_values in_bounds out = refl
none_listed o s v (item w ws) in_bounds out =
    let parts = both_true _ _ out in
    rw (outside_apart o s v w in_bounds parts.0) (none_listed o s v ws in_bounds parts.1)

not_listed : (o : Option Order) (s : Statistics) (v w : ValueTree) → IsWithin o s v → are_outside o s w ≡ true → is_listed v w ≡ false
not_listed o s v (list ws) in_bounds out = none_listed o s v ws in_bounds out
not_listed o s v _ in_bounds out = absurd (false≢true out)

-- where both bounds are one value that passes, each value within passes
only_passes : (o : Option Order) (p : ValueTree → Bool) (low high : Option ValueTree) (v : ValueTree) → IfSome low (λ m. IsAtMost o m v) → IfSome high (λ m. IsAtMost o v m) → is_only p low high ≡ true → p v ≡ true
only_passes o p None high v h k only = absurd (false≢true only)
only_passes o p (Some m) None v h k only = absurd (false≢true only)
only_passes o p (Some m) (Some n) v h k only =
    let parts = both_true _ _ only in
    let is : m ≡ v = at_most_same o m v h (subst (IsAtMost o v) (sym (same_is m n parts.0)) k) in
    subst (λ (x : ValueTree). p x ≡ true) is parts.1

no_less : (o : Option Order) (low : Option ValueTree) (v w : ValueTree) → IfSome low (λ m. IsAtMost o m v) → bound_is is_ge o low w ≡ true → IsBelow o v w → ⊥
no_less o None v w h out e = false≢true out
no_less o (Some m) v w h out e = not_back o w m (from_ge o m w out) (at_most_below o m v w h e)

no_less_or_equal : (o : Option Order) (low : Option ValueTree) (v w : ValueTree) → IfSome low (λ m. IsAtMost o m v) → bound_is is_gt o low w ≡ true → IsAtMost o v w → ⊥
no_less_or_equal o None v w h out e = false≢true out
no_less_or_equal o (Some m) v w h out e = not_back o m v h (at_most_below o v w m e (from_gt o m w out))

no_greater : (o : Option Order) (high : Option ValueTree) (v w : ValueTree) → IfSome high (λ m. IsAtMost o v m) → bound_is is_le o high w ≡ true → IsBelow o w v → ⊥
no_greater o None v w h out e = false≢true out
no_greater o (Some m) v w h out e = not_back o m w out (below_at_most o w v m e h)

no_greater_or_equal : (o : Option Order) (high : Option ValueTree) (v w : ValueTree) → IfSome high (λ m. IsAtMost o v m) → bound_is is_lt o high w ≡ true → IsAtMost o w v → ⊥
no_greater_or_equal o None v w h out e = false≢true out
no_greater_or_equal o (Some m) v w h out e = not_back o v m h (below_at_most o m w v out e)

-- of a value within bounds that exclude a term the term is false
pub excluded : (o : Option Order) (p : Op) (s : Statistics) (v w : ValueTree) → IsWithin o s v → excludes o p s w ≡ true → passes o p v w ≡ false
excluded o op.Equal s v w in_bounds out = outside_apart o s v w in_bounds out
excluded o op.NotEqual s v w in_bounds out = ap not (only_passes o (λ m. same m w) s.min s.max v in_bounds.above in_bounds.below out)
excluded o op.Less s v w in_bounds out = not_true _ (no_less o s.min v w in_bounds.above out)
excluded o op.LessOrEqual s v w in_bounds out = not_true _ (no_less_or_equal o s.min v w in_bounds.above out)
excluded o op.Greater s v w in_bounds out = not_true _ (λ e. no_greater o s.max v w in_bounds.below out (from_gt o v w e))
excluded o op.GreaterOrEqual s v w in_bounds out = not_true _ (λ e. no_greater_or_equal o s.max v w in_bounds.below out (from_ge o v w e))
excluded o op.In s v w in_bounds out = not_listed o s v w in_bounds out
excluded o op.NotIn s v w in_bounds out = ap not (only_passes o (λ m. is_listed m w) s.min s.max v in_bounds.above in_bounds.below out)
