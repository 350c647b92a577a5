-- The bounds that are found are the least and the greatest value, and every value is on their side.
use Rattle.std.proofs.Common.{◌≡◌, Bool, true, false, List, Option, Some, None, refl, sym, ◌∙◌, inl, inr}
use Rattle.std.specs.Prelude.{IfSome, ◌↔◌, cond}
use Rattle.std.specs.List.{list_all}
use Rattle.std.specs.Ordering.{is_some_and, is_lt, is_gt}
use Rattle.schema.specs.declared.order.Order.{Order}
use Rattle.schema.specs.Values.{ValueTree}
use Rattle.schema.specs.Orders.{compared, is_compared, IsAtMost}
use Rattle.schema.specs.Stripe.{Entry}
use Rattle.schema.proofs.AtMost.{at_most_itself, at_most_from_below, from_not_less, from_not_greater, from_gt, at_most_at_most, at_most_left, at_most_right, at_most_same}
use Rattle.statistics.specs.Bounds.{Statistics, values, null_count, IsMinimum, IsMaximum, Bounds, IsLeast, IsGreatest, IsKeptAsBound, AreLeastAndGreatest}
use Rattle.statistics.specs.inner.Extremes.{lesser, greater, pick_from, kept, bound_of}
use Rattle.statistics.proofs.Picks.{Picks, bound_is}

lesser_picks : (o : Option Order) (v m : ValueTree) → is_compared o v ≡ true → is_compared o m ≡ true → Picks (IsAtMost o) v m (lesser o v m)
lesser_picks o v m c d = by (is_some_and is_lt (compared o v m)) refl
  where
    by : (b : Bool) → is_some_and is_lt (compared o v m) ≡ b → Picks (IsAtMost o) v m (cond b v m)
    by true e = record { either = inl refl; first = at_most_itself o v c; second = at_most_from_below o v m e }
    by false e = record { either = inr refl; first = from_not_less o v m c d e; second = at_most_itself o m d }

greater_picks : (o : Option Order) (v m : ValueTree) → is_compared o v ≡ true → is_compared o m ≡ true → Picks (λ a b. IsAtMost o b a) v m (greater o v m)
greater_picks o v m c d = by (is_some_and is_gt (compared o v m)) refl
  where
    by : (b : Bool) → is_some_and is_gt (compared o v m) ≡ b → Picks (λ a b. IsAtMost o b a) v m (cond b v m)
    by true e = record { either = inl refl; first = at_most_itself o v c; second = at_most_from_below o m v (from_gt o v m e) }
    by false e = record { either = inr refl; first = from_not_greater o v m c d e; second = at_most_itself o m d }

pub least_bound : (o : Option Order) (vs : List ValueTree) (m : ValueTree) → (bound_of o (lesser o) vs ≡ Some m) ↔ (IsLeast o vs m × IsKeptAsBound m)
least_bound o vs m = bound_is o (IsAtMost o) (lesser o) (at_most_itself o) (at_most_at_most o) (lesser_picks o) (at_most_same o) (at_most_right o) vs m

pub greatest_bound : (o : Option Order) (vs : List ValueTree) (m : ValueTree) → (bound_of o (greater o) vs ≡ Some m) ↔ (IsGreatest o vs m × IsKeptAsBound m)
greatest_bound o vs m = bound_is o (λ a b. IsAtMost o b a) (greater o) (at_most_itself o) (λ a b c h k. at_most_at_most o c b a k h) (greater_picks o)
    (λ a b h k. at_most_same o a b k h) (λ a b h. at_most_left o b a h) vs m

minimum_of : (o : Option Order) (vs : List ValueTree) (x : Option ValueTree) → x ≡ bound_of o (lesser o) vs → IfSome x (IsMinimum o vs)
minimum_of o vs None h = tt
minimum_of o vs (Some m) h = ((least_bound o vs m).0 (sym h)).0.1

maximum_of : (o : Option Order) (vs : List ValueTree) (x : Option ValueTree) → x ≡ bound_of o (greater o) vs → IfSome x (IsMaximum o vs)
maximum_of o vs None h = tt
maximum_of o vs (Some m) h = ((greatest_bound o vs m).0 (sym h)).0.1

-- what one pass over a column finds, in the order of its leaf, and what is kept of it
pub record IsFound (o : Option Order) (column : List Entry) (s : Statistics) : Type 0 where
  pub all : Bool
  pub low : Option ValueTree
  pub high : Option ValueTree
  pub compared_all : all ≡ list_all (is_compared o) (values column)
  pub least : low ≡ pick_from (lesser o) None (values column)
  pub greatest : high ≡ pick_from (greater o) None (values column)
  pub min : s.min ≡ kept all low
  pub max : s.max ≡ kept all high
  pub nulls : s.nulls ≡ null_count column

min_is : (o : Option Order) (column : List Entry) (s : Statistics) (f : IsFound o column s) → s.min ≡ bound_of o (lesser o) (values column)
min_is o column s f = f.min ∙ (λ i. kept (f.compared_all i) (f.least i))

max_is : (o : Option Order) (column : List Entry) (s : Statistics) (f : IsFound o column s) → s.max ≡ bound_of o (greater o) (values column)
max_is o column s f = f.max ∙ (λ i. kept (f.compared_all i) (f.greatest i))

pub bounds_hold : (o : Option Order) (column : List Entry) (s : Statistics) → IsFound o column s → Bounds o s column
bounds_hold o column s f = record {
  minimum = minimum_of o (values column) s.min (min_is o column s f);
  maximum = maximum_of o (values column) s.max (max_is o column s f);
  nulls = f.nulls;
}

pub bounds_are : (o : Option Order) (column : List Entry) (s : Statistics) → IsFound o column s → AreLeastAndGreatest o s column
bounds_are o column s f = record {
  least = λ m. let law = least_bound o (values column) m in (λ h. law.0 (sym (min_is o column s f) ∙ h), λ h. min_is o column s f ∙ law.1 h);
  greatest = λ m. let law = greatest_bound o (values column) m in (λ h. law.0 (sym (max_is o column s f) ∙ h), λ h. max_is o column s f ∙ law.1 h);
}
