-- The tests of rows and groups are the relations.
use Rattle.std.proofs.Common.{◌≡◌, ◌≢◌, ℕ, Bool, true, false, not, ◌&&◌, ◌||◌, ◌==◌, List, [], ◌∷◌, Option, Some, None, IsTrue, Vec, Global, length, refl, ap, sym, ◌∙◌, ◌⊎◌, inl, inr, eqb-true, eq-eqb}
use Rattle.std.specs.Prelude.{◌↔◌}
use Rattle.std.specs.List.{AllByRecursion, list_any, list_all}
use Rattle.std.specs.declared.cmp.Ordering.{Ordering}
use Rattle.std.specs.Ordering.{is_some_and, is_lt, is_le, is_gt, is_ge}
use Rattle.std.proofs.lemmas.Bool.{false≢true}
use Rattle.lists.proofs.Options.{ge_reversed as ge_turned, gt_reversed as gt_turned}
use Rattle.schema.specs.declared.order.Order.{Order}
use Rattle.schema.specs.Values.{ValueTree, null, boolean, integer, bytes, group, list, ValueTrees, no_values, value as item, each}
use Rattle.schema.specs.Orders.{compared, IsAtMost, IsBelow}
use Rattle.schema.proofs.Orders.{reversed_in}
use Rattle.statistics.specs.Bounds.{Statistics, Known}
use Rattle.filter.specs.declared.term.Op.{Op}
use Rattle.filter.specs.declared.term.Op.TheVariants.{Equal, NotEqual, Less, LessOrEqual, Greater, GreaterOrEqual, In, NotIn}
use Rattle.filter.specs.declared.test.Test.{Test as CodeTest}
use Rattle.filter.specs.Test.{Test, ands_view, value_of}
use Rattle.filter.specs.Satisfies.{AnyOf, IsOneOf, IsIn, Compares, Holds, Satisfies}
use Rattle.filter.specs.RuledOut.{HasBound, IsOutside, EachOutside, AreOutside, Excludes, key_at, statistics_at, IsOutBy, IsOut, RuledOut}
use Rattle.filter.specs.Same.{same, one_passes, is_listed}
use Rattle.filter.specs.Deciding.{is_null, passes, holds, satisfies}
use Rattle.filter.specs.inner.Excluded.{bound_is, is_outside, are_outside, is_only, excludes, is_out_by, is_out, ruled_out}
use Rattle.filter.proofs.Same.{same_is, same_from}

-- ---- tests of tests

-- a test is true exactly when P
abbrev Is : Bool → Type 0 → Type 0
Is b P = (b ≡ true) ↔ P

or_is : (a b : Bool) (P Q : Type 0) → Is a P → Is b Q → Is (a || b) (P ⊎ Q)
or_is true b P Q h k = (λ e. inl (h.0 refl), λ e. refl)
or_is false b P Q h k = (λ e. inr (k.0 e), λ e. elim e [ inl p ↦ absurd (false≢true (h.1 p)) | inr q ↦ k.1 q ])

and_is : (a b : Bool) (P Q : Type 0) → Is a P → Is b Q → Is (a && b) (P × Q)
and_is true b P Q h k = (λ e. (h.0 refl, k.0 e), λ e. k.1 e.1)
and_is false b P Q h k = (λ e. absurd (false≢true e), λ e. h.1 e.0)

not_is : (a : Bool) (P : Type 0) → Is a P → Is (not a) (P → ⊥)
not_is true P h = (λ e. absurd (false≢true e), λ e. absurd (e (h.0 refl)))
not_is false P h = (λ e p. false≢true (h.1 p), λ e. refl)

all_are : {X : Type 0} (p : X → Bool) (P : X → Type 0) → ((x : X) → Is (p x) (P x)) → (xs : List X) → Is (list_all p xs) (AllByRecursion P xs)
all_are p P f [] = (λ e. tt, λ e. refl)
all_are p P f (x ∷ xs) = and_is (p x) (list_all p xs) (P x) (AllByRecursion P xs) (f x) (all_are p P f xs)

any_is : {X : Type 0} (p : X → Bool) (P : X → Type 0) → ((x : X) → Is (p x) (P x)) → (xs : List X) → Is (list_any p xs) (AnyOf P xs)
any_is p P f [] = (λ e. absurd (false≢true e), λ e. absurd e)
any_is p P f (x ∷ xs) = or_is (p x) (list_any p xs) (P x) (AnyOf P xs) (f x) (any_is p P f xs)

-- ---- comparisons

ge_is : (o : Option Order) (a b : ValueTree) → Is (is_some_and is_ge (compared o a b)) (IsAtMost o b a)
ge_is o a b = let e = ap (is_some_and is_ge) (reversed_in o a b) ∙ ge_turned (compared o b a) in (λ h. sym e ∙ h, λ h. e ∙ h)

gt_is : (o : Option Order) (a b : ValueTree) → Is (is_some_and is_gt (compared o a b)) (IsBelow o b a)
gt_is o a b = let e = ap (is_some_and is_gt) (reversed_in o a b) ∙ gt_turned (compared o b a) in (λ h. sym e ∙ h, λ h. e ∙ h)

itself_is : (b : Bool) → Is b (IsTrue b)
itself_is b = (λ h. h, λ h. h)

equal_is : (v w : ValueTree) → Is (same v w) (v ≡ w)
equal_is v w = (same_is v w, same_from v w)

-- ---- rows

one_is : (v : ValueTree) (ws : ValueTrees) → Is (one_passes (same v) ws) (IsOneOf v ws)
one_is v no_values = (λ e. absurd (false≢true e), λ e. absurd e)
one_is v (item w ws) = or_is (same v w) (one_passes (same v) ws) (v ≡ w) (IsOneOf v ws) (equal_is v w) (one_is v ws)

listed_is : (v w : ValueTree) → Is (is_listed v w) (IsIn v w)
listed_is v (list ws) = one_is v ws
listed_is v _ = (λ e. absurd (false≢true e), λ e. absurd e)

null_is : (v : ValueTree) → Is (not (is_null v)) (v ≢ null)
null_is null = (λ e. absurd (false≢true e), λ e. absurd (e refl))
null_is (boolean a) = (λ h e. cc, λ e. refl)
null_is (integer a) = (λ h e. cc, λ e. refl)
null_is (bytes a) = (λ h e. cc, λ e. refl)
null_is (group a) = (λ h e. cc, λ e. refl)
null_is (list a) = (λ h e. cc, λ e. refl)

passes_is : (o : Option Order) (op : Op) (v w : ValueTree) → Is (passes o op v w) (Compares o op v w)
passes_is o Equal v w = equal_is v w
passes_is o NotEqual v w = not_is (same v w) (v ≡ w) (equal_is v w)
passes_is o Less v w = itself_is (is_some_and is_lt (compared o v w))
passes_is o LessOrEqual v w = itself_is (is_some_and is_le (compared o v w))
passes_is o Greater v w = gt_is o v w
passes_is o GreaterOrEqual v w = ge_is o v w
passes_is o In v w = listed_is v w
passes_is o NotIn v w = not_is (is_listed v w) (IsIn v w) (listed_is v w)

holds_is : (t : Test) (v : ValueTree) → Is (holds t v) (Holds t v)
holds_is t v = and_is (not (is_null v)) (passes t.order t.op v t.operand) (v ≢ null) (Compares t.order t.op v t.operand) (null_is v) (passes_is t.order t.op v t.operand)

pub satisfies_is : (ands : List (List Test)) (row : ValueTrees) → Is (satisfies ands row) (Satisfies ands row)
satisfies_is [] row = (λ e. inl refl, λ e. refl)
satisfies_is (terms ∷ ands) row =
    let some = any_is (λ ts. list_all (λ t. holds t (value_of t row)) ts) (AllByRecursion (λ t. Holds t (value_of t row)))
    (all_are (λ t. holds t (value_of t row)) (λ t. Holds t (value_of t row)) (λ t. holds_is t (value_of t row))) (terms ∷ ands) in
    (λ e. inr (some.0 e), λ e. elim e [ inl empty ↦ absurd (no_terms empty) | inr h ↦ some.1 h ])
  where
    no_terms : terms ∷ ands ≡ [] → ⊥
    no_terms e = cc

-- what a filter with terms says of a row
pub satisfied_when : (ands : List (List Test)) (row : ValueTrees) (r : Bool) → (ands ≡ [] → ⊥) → r ≡ list_any (λ terms. list_all (λ t. holds t (value_of t row)) terms) ands → IsTrue r ↔ Satisfies ands row
satisfied_when [] row r some e = absurd (some refl)
satisfied_when (terms ∷ ands) row r some e = let law = satisfies_is (terms ∷ ands) row in (λ h. law.0 (sym e ∙ h), λ h. e ∙ law.1 h)

-- ---- groups

bound_is_there : (p : Ordering → Bool) (P : ValueTree → Type 0) (o : Option Order) (bound : Option ValueTree) (w : ValueTree) → ((m : ValueTree) → Is (is_some_and p (compared o m w)) (P m)) → Is (bound_is p o bound w) (HasBound bound P)
bound_is_there p P o None w f = (λ e. absurd (false≢true e), λ e. absurd e)
bound_is_there p P o (Some m) w f = f m

outside_is : (o : Option Order) (s : Statistics) (w : ValueTree) → Is (is_outside o s w) (IsOutside o s w)
outside_is o s w = or_is (bound_is is_gt o s.min w) (bound_is is_lt o s.max w) (HasBound s.min (λ m. IsBelow o w m)) (HasBound s.max (λ m. IsBelow o m w))
    (bound_is_there is_gt (λ m. IsBelow o w m) o s.min w (λ m. gt_is o m w))
    (bound_is_there is_lt (λ m. IsBelow o m w) o s.max w (λ m. itself_is (is_some_and is_lt (compared o m w))))

each_is : (o : Option Order) (s : Statistics) (ws : ValueTrees) → Is (each (is_outside o s) ws) (EachOutside o s ws)
each_is o s no_values = (λ e. tt, λ e. refl)
each_is o s (item w ws) = and_is (is_outside o s w) (each (is_outside o s) ws) (IsOutside o s w) (EachOutside o s ws) (outside_is o s w) (each_is o s ws)

are_outside_is : (o : Option Order) (s : Statistics) (w : ValueTree) → Is (are_outside o s w) (AreOutside o s w)
are_outside_is o s (list ws) = each_is o s ws
are_outside_is o s _ = (λ e. absurd (false≢true e), λ e. absurd e)

-- both bounds are one value that is the operand
only_is : (low high : Option ValueTree) (w : ValueTree) → Is (is_only (λ m. same m w) low high) (HasBound low (λ m. m ≡ w) × HasBound high (λ m. m ≡ w))
only_is None high w = (λ e. absurd (false≢true e), λ e. absurd e.0)
only_is (Some m) None w = (λ e. absurd (false≢true e), λ e. absurd e.1)
only_is (Some m) (Some n) w =
    let both = and_is (same m n) (same m w) (m ≡ n) (m ≡ w) (equal_is m n) (equal_is m w) in
    (λ e. let h = both.0 e in (h.1, sym h.0 ∙ h.1), λ e. both.1 (e.0 ∙ sym e.1, e.0))

only_listed : (low high : Option ValueTree) (w : ValueTree) → Is (is_only (λ m. is_listed m w) low high) (HasBound low (λ m. HasBound high (λ n. (m ≡ n) × IsIn m w)))
only_listed None high w = (λ e. absurd (false≢true e), λ e. absurd e)
only_listed (Some m) None w = (λ e. absurd (false≢true e), λ e. absurd e)
only_listed (Some m) (Some n) w = and_is (same m n) (is_listed m w) (m ≡ n) (IsIn m w) (equal_is m n) (listed_is m w)

excludes_is : (o : Option Order) (op : Op) (s : Statistics) (w : ValueTree) → Is (excludes o op s w) (Excludes o op s w)
excludes_is o Equal s w = outside_is o s w
excludes_is o NotEqual s w = only_is s.min s.max w
excludes_is o Less s w = bound_is_there is_ge (λ m. IsAtMost o w m) o s.min w (λ m. ge_is o m w)
excludes_is o LessOrEqual s w = bound_is_there is_gt (λ m. IsBelow o w m) o s.min w (λ m. gt_is o m w)
excludes_is o Greater s w = bound_is_there is_le (λ m. IsAtMost o m w) o s.max w (λ m. itself_is (is_some_and is_le (compared o m w)))
excludes_is o GreaterOrEqual s w = bound_is_there is_lt (λ m. IsBelow o m w) o s.max w (λ m. itself_is (is_some_and is_lt (compared o m w)))
excludes_is o In s w = are_outside_is o s w
excludes_is o NotIn s w = only_listed s.min s.max w

out_by_is : (k : Option ValueTree) (s : Statistics) (rows : ℕ) (t : Test) → Is (is_out_by k s rows t) (IsOutBy k s rows t)
out_by_is (Some v) s rows t = not_is (holds t v) (Holds t v) (holds_is t v)
out_by_is None s rows t = or_is (s.nulls == rows) (excludes t.order t.op s t.operand) (s.nulls ≡ rows) (Excludes t.order t.op s t.operand)
    (eqb-true s.nulls rows, eq-eqb s.nulls rows) (excludes_is t.order t.op s t.operand)

out_is : (places : List ℕ) (key : List ValueTree) (known : Known) (t : Test) → Is (is_out places key known t) (IsOut places key known t)
unfolding is_out
out_is places key known t = out_by_is (key_at places key t.first.place) (statistics_at places known t) known.rows t

pub ruled_out_is : (ands : List (List Test)) (places : List ℕ) (key : List ValueTree) (known : Known) → Is (ruled_out ands places key known) (RuledOut ands places key known)
ruled_out_is [] places key known = (λ e. absurd (false≢true e), λ e. absurd (e.0 refl))
ruled_out_is (terms ∷ ands) places key known =
    let all = all_are (λ ts. list_any (is_out places key known) ts) (AnyOf (IsOut places key known)) (any_is (is_out places key known) (IsOut places key known) (out_is places key known)) (terms ∷ ands) in
    (λ e. (no_terms, all.0 e), λ e. all.1 e.1)
  where
    no_terms : terms ∷ ands ≡ [] → ⊥
    no_terms e = cc

-- what a filter with terms says of a group
pub ruled_out_when : (ands : List (List Test)) (places : List ℕ) (key : List ValueTree) (known : Known) (r : Bool) → (ands ≡ [] → ⊥) → r ≡ list_all (λ terms. list_any (is_out places key known) terms) ands → IsTrue r ↔ RuledOut ands places key known
ruled_out_when [] places key known r some e = absurd (some refl)
ruled_out_when (terms ∷ ands) places key known r some e = let law = ruled_out_is (terms ∷ ands) places key known in (λ h. law.0 (sym e ∙ h), λ h. e ∙ law.1 h)

-- no ANDs are seen exactly when there are none
pub no_ands : (ands : List (Vec CodeTest Global)) → ands_view ands ≡ [] → length ands ≡ 0
no_ands [] e = refl
no_ands (x ∷ xs) e = cc
