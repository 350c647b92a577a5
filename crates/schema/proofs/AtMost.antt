-- At most and below, in an order: what bounds and filters rest on.
use Rattle.std.proofs.Common.{◌≡◌, true, false, Option, Some, None, refl, ap, sym, subst, ◌∙◌, ◌⊎◌, inl, inr}
use Rattle.std.specs.Prelude.{option_map, is_some}
use Rattle.std.specs.declared.cmp.Ordering.{Ordering}
use Rattle.std.specs.declared.cmp.Ordering.TheVariants.{Less, Equal, Greater}
use Rattle.std.specs.Ordering.{is_some_and, is_lt, is_le, is_gt, is_ge, ordering_reverse}
use Rattle.std.proofs.lemmas.Bool.{false≢true}
use Rattle.lists.proofs.Options.{ge_reversed as ge_turned, gt_reversed as gt_turned}
use Rattle.schema.specs.declared.order.Order.{Order}
use Rattle.schema.specs.declared.order.Order.TheVariants.{Signed, Unsigned, FalseFirst, Bytewise}
use Rattle.schema.specs.Values.{ValueTree, boolean, integer, bytes}
use Rattle.schema.specs.Orders.{compared, is_compared, IsBelow, IsAtMost, OrdersHaveAtMost}
use Rattle.schema.proofs.Orders.{equal_in, reversed_in, chains_in}

-- ---- at most, and below

at_most_is : (x : Option Ordering) → is_some_and is_le x ≡ true → (x ≡ Some Less) ⊎ (x ≡ Some Equal)
at_most_is None h = absurd (false≢true h)
at_most_is (Some Less) h = inl refl
at_most_is (Some Equal) h = inr refl
at_most_is (Some Greater) h = absurd (false≢true h)

below_is : (x : Option Ordering) → is_some_and is_lt x ≡ true → x ≡ Some Less
below_is None h = absurd (false≢true h)
below_is (Some Less) h = refl
below_is (Some Equal) h = absurd (false≢true h)
below_is (Some Greater) h = absurd (false≢true h)

pub from_ge : (o : Option Order) (a b : ValueTree) → is_some_and is_ge (compared o a b) ≡ true → IsAtMost o b a
from_ge o a b h = sym (ap (is_some_and is_ge) (reversed_in o a b) ∙ ge_turned (compared o b a)) ∙ h

pub from_gt : (o : Option Order) (a b : ValueTree) → is_some_and is_gt (compared o a b) ≡ true → IsBelow o b a
from_gt o a b h = sym (ap (is_some_and is_gt) (reversed_in o a b) ∙ gt_turned (compared o b a)) ∙ h

pub at_most_below : (o : Option Order) (a b c : ValueTree) → IsAtMost o a b → IsBelow o b c → IsBelow o a c
at_most_below o a b c h k = elim (at_most_is (compared o a b) h) [
  | inl less ↦ ap (is_some_and is_lt) (chains_in o a b c less (below_is (compared o b c) k))
  | inr equal ↦ subst (λ (x : ValueTree). IsBelow o x c) (sym (equal_in o a b equal)) k
]

pub below_at_most : (o : Option Order) (a b c : ValueTree) → IsBelow o a b → IsAtMost o b c → IsBelow o a c
below_at_most o a b c h k = elim (at_most_is (compared o b c) k) [
  | inl less ↦ ap (is_some_and is_lt) (chains_in o a b c (below_is (compared o a b) h) less)
  | inr equal ↦ subst (λ (x : ValueTree). IsBelow o a x) (equal_in o b c equal) h
]

never_itself : (x : Option Ordering) → x ≡ option_map ordering_reverse x → is_some_and is_lt x ≡ true → ⊥
never_itself None e h = false≢true h
never_itself (Some Less) e h = cc
never_itself (Some Equal) e h = false≢true h
never_itself (Some Greater) e h = false≢true h

pub not_back : (o : Option Order) (a b : ValueTree) → IsAtMost o a b → IsBelow o b a → ⊥
not_back o a b h k = never_itself (compared o a a) (reversed_in o a a) (at_most_below o a b a h k)

pub at_most_same : (o : Option Order) (a b : ValueTree) → IsAtMost o a b → IsAtMost o b a → a ≡ b
at_most_same o a b h k = elim (at_most_is (compared o a b) h) [
  | inl less ↦ absurd (not_back o b a k (ap (is_some_and is_lt) less))
  | inr equal ↦ equal_in o a b equal
]

-- ---- which values the order compares

pub compares_both : (o : Option Order) (a b : ValueTree) → is_compared o a ≡ true → is_compared o b ≡ true → is_some (compared o a b) ≡ true
compares_both (Some Signed) (integer a) (integer b) p q = refl
compares_both (Some Unsigned) (integer a) (integer b) p q = refl
compares_both (Some FalseFirst) (boolean a) (boolean b) p q = refl
compares_both (Some Bytewise) (bytes a) (bytes b) p q = refl
compares_both (Some Signed) (integer a) _ p q = absurd (false≢true q)
compares_both (Some Unsigned) (integer a) _ p q = absurd (false≢true q)
compares_both (Some FalseFirst) (boolean a) _ p q = absurd (false≢true q)
compares_both (Some Bytewise) (bytes a) _ p q = absurd (false≢true q)
compares_both _ _ _ p q = absurd (false≢true p)

is_some_from : (x : Option Ordering) → is_some_and is_le x ≡ true → is_some x ≡ true
is_some_from None h = h
is_some_from (Some r) h = refl

compared_right : (o : Option Order) (a b : ValueTree) → is_some (compared o a b) ≡ true → is_compared o b ≡ true
compared_right (Some Signed) (integer a) (integer b) h = refl
compared_right (Some Unsigned) (integer a) (integer b) h = refl
compared_right (Some FalseFirst) (boolean a) (boolean b) h = refl
compared_right (Some Bytewise) (bytes a) (bytes b) h = refl
compared_right _ _ _ h = absurd (false≢true h)

compared_left : (o : Option Order) (a b : ValueTree) → is_some (compared o a b) ≡ true → is_compared o a ≡ true
compared_left (Some Signed) (integer a) (integer b) h = refl
compared_left (Some Unsigned) (integer a) (integer b) h = refl
compared_left (Some FalseFirst) (boolean a) (boolean b) h = refl
compared_left (Some Bytewise) (bytes a) (bytes b) h = refl
compared_left _ _ _ h = absurd (false≢true h)

pub at_most_right : (o : Option Order) (a b : ValueTree) → IsAtMost o a b → is_compared o b ≡ true
at_most_right o a b h = compared_right o a b (is_some_from (compared o a b) h)

pub at_most_left : (o : Option Order) (a b : ValueTree) → IsAtMost o a b → is_compared o a ≡ true
at_most_left o a b h = compared_left o a b (is_some_from (compared o a b) h)

itself : (x : Option Ordering) → x ≡ option_map ordering_reverse x → is_some x ≡ true → is_some_and is_le x ≡ true
itself None e h = h
itself (Some Less) e h = refl
itself (Some Equal) e h = refl
itself (Some Greater) e h = cc

pub at_most_itself : (o : Option Order) (v : ValueTree) → is_compared o v ≡ true → IsAtMost o v v
at_most_itself o v h = itself (compared o v v) (reversed_in o v v) h

pub at_most_from_below : (o : Option Order) (a b : ValueTree) → IsBelow o a b → IsAtMost o a b
at_most_from_below o a b h = ap (is_some_and is_le) (below_is (compared o a b) h)

not_less : (x : Option Ordering) → is_some x ≡ true → is_some_and is_lt x ≡ false → is_some_and is_ge x ≡ true
not_less None s h = s
not_less (Some Less) s h = sym h
not_less (Some Equal) s h = refl
not_less (Some Greater) s h = refl

not_greater : (x : Option Ordering) → is_some x ≡ true → is_some_and is_gt x ≡ false → is_some_and is_le x ≡ true
not_greater None s h = s
not_greater (Some Less) s h = refl
not_greater (Some Equal) s h = refl
not_greater (Some Greater) s h = sym h

pub from_not_less : (o : Option Order) (a b : ValueTree) → is_compared o a ≡ true → is_compared o b ≡ true → is_some_and is_lt (compared o a b) ≡ false → IsAtMost o b a
from_not_less o a b p q h = from_ge o a b (not_less (compared o a b) (compares_both o a b p q) h)

pub from_not_greater : (o : Option Order) (a b : ValueTree) → is_compared o a ≡ true → is_compared o b ≡ true → is_some_and is_gt (compared o a b) ≡ false → IsAtMost o a b
from_not_greater o a b p q h = not_greater (compared o a b) (compares_both o a b p q) h

pub at_most_at_most : (o : Option Order) (a b c : ValueTree) → IsAtMost o a b → IsAtMost o b c → IsAtMost o a c
at_most_at_most o a b c h k = elim (at_most_is (compared o a b) h) [
  | inl less ↦ at_most_from_below o a c (below_at_most o a b c (ap (is_some_and is_lt) less) k)
  | inr equal ↦ subst (λ (x : ValueTree). IsAtMost o x c) (sym (equal_in o a b equal)) k
]

at_most_or : (x : Option Ordering) → is_some x ≡ true → (is_some_and is_le x ≡ true) ⊎ (is_some_and is_gt x ≡ true)
at_most_or None h = absurd (false≢true h)
at_most_or (Some Less) h = inl refl
at_most_or (Some Equal) h = inl refl
at_most_or (Some Greater) h = inr refl

-- of two values that the order compares, the first is at most the second, or the second is below the first
pub at_most_total : (o : Option Order) (a b : ValueTree) → is_compared o a ≡ true → is_compared o b ≡ true → IsAtMost o a b ⊎ IsBelow o b a
at_most_total o a b p q = elim (at_most_or (compared o a b) (compares_both o a b p q)) [
  | inl le ↦ inl le
  | inr gt ↦ inr (from_gt o a b gt)
]

-- ---- the laws

pub at_most_laws : OrdersHaveAtMost
at_most_laws o = record {
  itself = at_most_itself o;
  both = at_most_same o;
  chains = at_most_at_most o;
  before = at_most_below o;
  behind = below_at_most o;
  not_back = not_back o;
  total = λ a b p q. at_most_total o a b p q;
}
