-- Options, results and orders.
use Rattle.std.proofs.Common.{Bool, None, Option, Some, if◌then◌else◌, false, refl, true, ◌≡◌, ap, is_some, sym, true≢false, option_and_then, option_map, Err, Ok, OnOk, Result, is_ge, is_le, is_gt, is_lt}
use Rattle.std.specs.Ordering.{is_some_and, ordering_reverse}
use Rattle.std.specs.declared.cmp.Ordering.{Ordering}
use Rattle.std.specs.declared.cmp.Ordering.TheVariants.{Equal, Greater, Less}

-- a value that stands behind a test: the test holds
pub some_if : {A : Type 0} (b : Bool) (o : Option A) (a : A) → (if b then o else None) ≡ Some a → (b ≡ true) × (o ≡ Some a)
some_if true o a e = (refl, e)
some_if false o a e = absurd (cc)

none_is : {A : Type 0} {B : Type 0} (x : A) → None ≡ Some x → B
none_is x e = absurd (true≢false (sym (ap is_some e)))

-- what a chained option gives came from a value
pub and_then_some : {A B : Type 0} (f : A → Option B) (o : Option A) (y : B) → option_and_then f o ≡ Some y → (x : A) × (o ≡ Some x) × (f x ≡ Some y)
and_then_some f None y e = none_is y e
and_then_some f (Some x) y e = (x, refl, e)

-- what a mapped option gives came from a value
pub map_some : {A B : Type 0} (f : A → B) (o : Option A) (y : B) → option_map f o ≡ Some y → (x : A) × (o ≡ Some x) × (f x ≡ y)
map_some f None y e = absurd (cc)
map_some f (Some x) y e = (x, refl, cc)

-- an option has at most one value
pub one_some : {A : Type 0} (o : Option A) (a b : A) → o ≡ Some a → o ≡ Some b → a ≡ b
one_some o a b p q = cc

-- what holds of a success holds in any weaker form
pub on_ok_weaker : {T E : Type 0} (P Q : Type 0) (r : Result T E) → (P → Q) → OnOk r P → OnOk r Q
on_ok_weaker P Q (Ok x) f p = f p
on_ok_weaker P Q (Err e) f p = tt

-- what always holds holds of a success
pub on_ok_always : {X E : Type 0} (P : Type 0) (r : Result X E) → P → OnOk r P
on_ok_always P (Ok x) p = p
on_ok_always P (Err e) p = tt

-- reversed, an order is at least exactly where it is at most
pub ge_reversed : (x : Option Ordering) → is_some_and is_ge (option_map ordering_reverse x) ≡ is_some_and is_le x
ge_reversed None = refl
ge_reversed (Some Less) = refl
ge_reversed (Some Equal) = refl
ge_reversed (Some Greater) = refl

-- reversed, an order is greater exactly where it is less
pub gt_reversed : (x : Option Ordering) → is_some_and is_gt (option_map ordering_reverse x) ≡ is_some_and is_lt x
gt_reversed None = refl
gt_reversed (Some Less) = refl
gt_reversed (Some Equal) = refl
gt_reversed (Some Greater) = refl
