-- What is picked from values that all compare is one of them, and on one side of all of them.
use Rattle.std.proofs.Common.{◌≡◌, zero, suc, arith, Bool, true, false, List, [], ◌∷◌, Option, Some, None, refl, ap, sym, subst, ◌∙◌, ◌⊎◌, inl, inr}
use Rattle.std.specs.Prelude.{Contains, ◌↔◌, cond}
use Rattle.std.specs.List.{AllByRecursion, list_all}
use Rattle.std.proofs.lemmas.Bool.{and_parts}
use Rattle.std.proofs.lemmas.Bool.Decides.{nat_tests}
use Rattle.std.proofs.lemmas.List.Elements.{All-from_recursion}
use Rattle.schema.specs.declared.order.Order.{Order}
use Rattle.schema.specs.Values.{ValueTree, null, boolean, integer, bytes, group, list}
use Rattle.schema.specs.Orders.{is_compared}
use Rattle.statistics.specs.Bounds.{IsKeptAsBound}
use Rattle.statistics.specs.inner.Extremes.{pick_from, is_within_limit, kept, bound_of}

-- ---- elements of a list

at_element : (P : ValueTree → Type 0) (vs : List ValueTree) (x : ValueTree) → Contains vs x → AllByRecursion P vs → P x
at_element P vs x h all = subst P h.2 (All-from_recursion P vs all h.0 x h.1)

contains_head : (v : ValueTree) (vs : List ValueTree) → Contains (v ∷ vs) v
contains_head v vs = (0, omega arith, refl)

-- the first element is one of two
contains_either : (x v m r : ValueTree) (vs : List ValueTree) → (x ≡ v) ⊎ (x ≡ m) → Contains (x ∷ vs) r → Contains (m ∷ v ∷ vs) r
contains_either x v m r vs (inl e) (zero, lt, is) = (1, omega arith, sym e ∙ is)
contains_either x v m r vs (inr e) (zero, lt, is) = (0, omega arith, sym e ∙ is)
contains_either x v m r vs one (suc i, lt, is) = (suc (suc i), omega (arith, lt), is)

-- ---- few bytes

within_limit : (m : ValueTree) → (is_within_limit m ≡ true) ↔ IsKeptAsBound m
within_limit (bytes s) = (λ h. grind (arith, nat_tests), λ h. grind (arith, nat_tests))
within_limit null = (λ h. tt, λ h. refl)
within_limit (boolean b) = (λ h. tt, λ h. refl)
within_limit (integer z) = (λ h. tt, λ h. refl)
within_limit (group vs) = (λ h. tt, λ h. refl)
within_limit (list vs) = (λ h. tt, λ h. refl)

kept_is : (b : Bool) (x : Option ValueTree) (m : ValueTree) → kept b x ≡ Some m → (b ≡ true) × (x ≡ Some m) × (is_within_limit m ≡ true)
kept_is false x m h = cc
kept_is true None m h = cc
kept_is true (Some n) m h = by (is_within_limit n) refl h
  where
    by : (b : Bool) → is_within_limit n ≡ b → cond b (Some n) None ≡ Some m → (true ≡ true) × (Some n ≡ Some m) × (is_within_limit m ≡ true)
    by true e h = let same : n ≡ m = cc in (refl, h, subst (λ (x : ValueTree). is_within_limit x ≡ true) same e)
    by false e h = cc

is_kept : (b : Bool) (x : Option ValueTree) (m : ValueTree) → b ≡ true → x ≡ Some m → is_within_limit m ≡ true → kept b x ≡ Some m
is_kept b x m all is within = ap (λ (c : Bool). kept c x) all ∙ ap (kept true) is ∙ ap (λ (c : Bool). cond c (Some m) None) within

-- ---- picking

-- one of two, on one side of both
pub record Picks (R : ValueTree → ValueTree → Type 0) (v m x : ValueTree) : Type 0 where
  pub either : (x ≡ v) ⊎ (x ≡ m)
  pub first : R x v
  pub second : R x m

module _ (o : Option Order) (R : ValueTree → ValueTree → Type 0) (pick : ValueTree → ValueTree → ValueTree)
    (itself : (v : ValueTree) → is_compared o v ≡ true → R v v)
    (chains : (a b c : ValueTree) → R a b → R b c → R a c)
    (picks : (v m : ValueTree) → is_compared o v ≡ true → is_compared o m ≡ true → Picks R v m (pick v m)) where
  -- what was picked
  record IsPicked (vs : List ValueTree) (found : Option ValueTree) : Type 0 where
    value : ValueTree
    is : found ≡ Some value
    among : Contains vs value
    side : AllByRecursion (R value) vs

  picked_after : (m : ValueTree) (vs : List ValueTree) → is_compared o m ≡ true → list_all (is_compared o) vs ≡ true → IsPicked (m ∷ vs) (pick_from pick (Some m) vs)
  picked_after m [] c h = record { value = m; is = refl; among = contains_head m []; side = (itself m c, tt) }
  picked_after m (v ∷ vs) c h =
      let parts = and_parts (is_compared o v) (list_all (is_compared o) vs) h in
      let p = picks v m parts.0 c in
      let self : is_compared o (pick v m) ≡ true = elim p.either [ inl e ↦ ap (is_compared o) e ∙ parts.0 | inr e ↦ ap (is_compared o) e ∙ c ] in
      let rest = picked_after (pick v m) vs self parts.1 in
      record {
        value = rest.value;
        is = rest.is;
        among = contains_either (pick v m) v m rest.value vs p.either rest.among;
        side = (chains rest.value (pick v m) m rest.side.0 p.second, (chains rest.value (pick v m) v rest.side.0 p.first, rest.side.1));
      }

  picked_of : (v : ValueTree) (vs : List ValueTree) → list_all (is_compared o) (v ∷ vs) ≡ true → IsPicked (v ∷ vs) (pick_from pick None (v ∷ vs))
  picked_of v vs h = let parts = and_parts (is_compared o v) (list_all (is_compared o) vs) h in picked_after v vs parts.0 parts.1

  all_compare : (P : ValueTree → Type 0) → ((v : ValueTree) → P v → is_compared o v ≡ true) → (vs : List ValueTree) → AllByRecursion P vs → list_all (is_compared o) vs ≡ true
  all_compare P f [] h = refl
  all_compare P f (v ∷ vs) h = rw (f v h.0) (all_compare P f vs h.1)

  pub bound_is : ((a b : ValueTree) → R a b → R b a → a ≡ b) → ((a b : ValueTree) → R a b → is_compared o b ≡ true)
      → (vs : List ValueTree) (m : ValueTree) → (bound_of o pick vs ≡ Some m) ↔ ((Contains vs m × AllByRecursion (R m) vs) × IsKeptAsBound m)
  bound_is same compares vs m = (forth vs, back vs)
    where
      forth : (vs : List ValueTree) → bound_of o pick vs ≡ Some m → (Contains vs m × AllByRecursion (R m) vs) × IsKeptAsBound m
      forth [] h = cc
      forth (v ∷ vs) h =
          let k = kept_is (list_all (is_compared o) (v ∷ vs)) (pick_from pick None (v ∷ vs)) m h in
          let p = picked_of v vs k.0 in
          let both : Some p.value ≡ Some m = sym p.is ∙ k.1 in
          let e : p.value ≡ m = cc in
          (subst (λ (x : ValueTree). Contains (v ∷ vs) x × AllByRecursion (R x) (v ∷ vs)) e (p.among, p.side), (within_limit m).0 k.2)

      back : (vs : List ValueTree) → (Contains vs m × AllByRecursion (R m) vs) × IsKeptAsBound m → bound_of o pick vs ≡ Some m
      back [] h = absurd (omega (arith, h.0.0.1))
      back (v ∷ vs) h =
          let all = all_compare (R m) (λ x r. compares m x r) (v ∷ vs) h.0.1 in
          let p = picked_of v vs all in
          let e : p.value ≡ m = same p.value m (at_element (R p.value) (v ∷ vs) m h.0.0 p.side) (at_element (R m) (v ∷ vs) p.value p.among h.0.1) in
          is_kept (list_all (is_compared o) (v ∷ vs)) (pick_from pick None (v ∷ vs)) m all (p.is ∙ ap Some e) ((within_limit m).1 h.1)
