-- The statistics of the entries of a leaf, and their bytes.
use Rattle.std.proofs.Common.{◌≡◌, ◌≤◌, ℕ, List, length, Option, Some, None, refl, subst, arith, inl, inr}
use Rattle.std.specs.Prelude.{◌⊎◌, All, Contains, IfSome}
use Rattle.bits.specs.declared.refusal.Refusal.{Refusal}
use Rattle.bits.specs.declared.refusal.Refusal.TheVariants.{Value, Limit, Memory}
use Rattle.bits.specs.Refusals.{HasCause}
use Rattle.schema.specs.declared.order.Order.{Order}
use Rattle.schema.specs.declared.value.Kind.{Kind}
use Rattle.schema.specs.Values.{ValueTree, bytes}
use Rattle.schema.specs.Stripe.{Entry}
use Rattle.plain.specs.Plain.{IsOfKind}
use Rattle.statistics.specs.Bounds.{Statistics, AreLeastAndGreatest, IsKeptAsBound}
use Rattle.statistics.specs.Bytes.{IsWrittenBound, IsOfKindAt, IsLongAt, KeptBoundsAreShort}
use Rattle.pages.specs.Page.{values}

kept_at : (bound : Option ValueTree) → ((m : ValueTree) → bound ≡ Some m → IsKeptAsBound m) → IfSome bound IsKeptAsBound
kept_at None law = tt
kept_at (Some m) law = law m refl

kind_at : (kind : Kind) (bound : Option ValueTree) → ((m : ValueTree) → bound ≡ Some m → IsOfKind kind m) → IsOfKindAt kind bound
kind_at kind None law = tt
kind_at kind (Some m) law = law m refl

-- each bound is kept
pub min_kept : (o : Option Order) (es : List Entry) (s : Statistics) → AreLeastAndGreatest o s es → IfSome s.min IsKeptAsBound
min_kept o es s are = kept_at s.min (λ m is. ((are.least m).0 is).1)

pub max_kept : (o : Option Order) (es : List Entry) (s : Statistics) → AreLeastAndGreatest o s es → IfSome s.max IsKeptAsBound
max_kept o es s are = kept_at s.max (λ m is. ((are.greatest m).0 is).1)

at_element : (P : ValueTree → Type 0) (vs : List ValueTree) (m : ValueTree) → All P vs → Contains vs m → P m
at_element P vs m all among = subst P among.2 (all among.0 m among.1)

-- and a value of the type
pub min_of_kind : (kind : Kind) (o : Option Order) (es : List Entry) (s : Statistics) → All (IsOfKind kind) (values es) → AreLeastAndGreatest o s es → IsOfKindAt kind s.min
min_of_kind kind o es s all are = kind_at kind s.min (λ m is. at_element (IsOfKind kind) (values es) m all ((are.least m).0 is).0.0)

pub max_of_kind : (kind : Kind) (o : Option Order) (es : List Entry) (s : Statistics) → All (IsOfKind kind) (values es) → AreLeastAndGreatest o s es → IsOfKindAt kind s.max
max_of_kind kind o es s all are = kind_at kind s.max (λ m is. at_element (IsOfKind kind) (values es) m all ((are.greatest m).0 is).0.0)

-- so its bytes are few
pub short_bound : KeptBoundsAreShort → (kind : Kind) (text : Option (List ℕ)) (bound : Option ValueTree) → IfSome bound IsKeptAsBound → IsWrittenBound kind text bound → IfSome text (λ t. length t ≤ 64)
short_bound law kind None bound kept written = tt
short_bound law kind (Some text) (Some m) kept written = law kind text m written.0 kept
short_bound law kind (Some text) None kept written = absurd written

never_long : (bound : Option ValueTree) → IfSome bound IsKeptAsBound → IsLongAt bound → ⊥
never_long None kept long = long
never_long (Some (bytes text)) kept long = omega (arith, kept, long)
never_long (Some m) kept long = long

-- and Limit does not come
pub only_value : (low high : Option ValueTree) (e : Refusal) → IfSome low IsKeptAsBound → IfSome high IsKeptAsBound → (e ≡ Limit → IsLongAt low ⊎ IsLongAt high) → HasCause (λ f. (f ≡ Value) ⊎ (f ≡ Limit)) e → HasCause (λ f. f ≡ Value) e
only_value low high Memory least most limit cause = tt
only_value low high e least most limit (inl value) = value
only_value low high e least most limit (inr over) = absurd (by (limit over))
  where
    by : IsLongAt low ⊎ IsLongAt high → ⊥
    by (inl long) = never_long low least long
    by (inr long) = never_long high most long
