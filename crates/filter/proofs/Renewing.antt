-- Verdicts that are made anew, one after another.
use Rattle.std.proofs.Common.{◌≡◌, ◌<◌, ◌≤◌, ◌+◌, ◌==◌, ℕ, zero, suc, Bool, true, false, List, [], ◌∷◌, ◌++◌, length, get_or, take, drop, map, refl, ap, sym, ◌∙◌, arith, add-one, eqb-true}
use Rattle.std.specs.Prelude.{cond, ◌&&◌, ◌||◌, Vec}
use Rattle.std.specs.List.{list_any, list_all}
use Rattle.std.specs.declared.alloc.Global.{Global}
use Rattle.std.proofs.Math.ListN.{set}
use Rattle.std.proofs.lemmas.List.{drop_more}
use Rattle.std.proofs.lemmas.Bool.{false≢true}
use Rattle.std.proofs.lemmas.Bool.Decides.{nat_tests}
use Rattle.schema.specs.Values.{ValueTree, ValueTrees, member_at}
use Rattle.filter.specs.Deciding.{holds}
use Rattle.filter.specs.declared.test.Test.{Test as CodeTest}
use Rattle.filter.specs.Test.{Test, test_view, ands_view}
use Rattle.filter.specs.Verdicts.{verdicts_of, verdicts_view, IsPutAt}
use Rattle.filter.specs.inner.Judging.{renewed, verdict, judged, judged_terms}

-- ---- one element after another

renew_next : {X Y : Type 0} (f : X → Y → Y) (x : X) (rest : List X) (ys : List Y) (i : ℕ) (y : Y) → i < length ys → (z : Y) → z ≡ f x (get_or ys i y)
    → take (suc i) (set ys i z) ++ renewed f rest (drop (suc i) (set ys i z)) ≡ take i ys ++ renewed f (x ∷ rest) (drop i ys)
renew_next f x rest [] i y lt z is = absurd (omega (arith, lt))
renew_next {Y = Y} f x rest (b ∷ ys) zero y lt z is = ap (λ (t : Y). t ∷ renewed f rest ys) is
renew_next {Y = Y} f x rest (b ∷ ys) (suc i) y lt z is = ap (λ (t : List Y). b ∷ t) (renew_next f x rest ys i y (omega (arith, lt)) z is)

none_left : {X Y : Type 0} (f : X → Y → Y) (xs : List X) → renewed f xs [] ≡ []
none_left f [] = refl
none_left f (x ∷ xs) = refl

-- the second list has no more elements
pub renew_short : {X Y : Type 0} (f : X → Y → Y) (zs : List X) (ys : List Y) (i : ℕ) → length ys ≤ i → take i ys ++ renewed f zs (drop i ys) ≡ ys
renew_short f zs [] zero le = none_left f zs
renew_short f zs [] (suc i) le = none_left f zs
renew_short f zs (b ∷ ys) zero le = absurd (omega (arith, le))
renew_short {Y = Y} f zs (b ∷ ys) (suc i) le = ap (λ (t : List Y). b ∷ t) (renew_short f zs ys i (omega (arith, le)))

-- ---- one AND after another

view_set : (vs : List (Vec Bool Global)) (i : ℕ) (v : Vec Bool Global) → verdicts_view (set vs i v) ≡ set (verdicts_view vs) i v.items
view_set [] i v = refl
view_set (w ∷ vs) zero v = refl
view_set (w ∷ vs) (suc i) v = ap (λ (t : List (List Bool)). w.items ∷ t) (view_set vs i v)

view_get : (vs : List (Vec Bool Global)) (i : ℕ) (v : Vec Bool Global) → (get_or vs i v).items ≡ get_or (verdicts_view vs) i v.items
view_get [] i v = refl
view_get (w ∷ vs) zero v = refl
view_get (w ∷ vs) (suc i) v = view_get vs i v

view_length : (vs : List (Vec Bool Global)) → length (verdicts_view vs) ≡ length vs
view_length [] = refl
view_length (v ∷ vs) = ap suc (view_length vs)

pub short_views : (n : ℕ) (v : ValueTree) (ands : List (List Test)) (vs : List (Vec Bool Global)) (i : ℕ) → length vs ≤ i
    → take i (verdicts_view vs) ++ renewed (judged_terms n v) ands (drop i (verdicts_view vs)) ≡ verdicts_view vs
short_views n v ands vs i le = renew_short (judged_terms n v) ands (verdicts_view vs) i (let s = view_length vs in omega (arith, s, le))

pub next_views : (n : ℕ) (v : ValueTree) (ands : List (Vec CodeTest Global)) (vs : List (Vec Bool Global)) (i : ℕ) (a : Vec CodeTest Global) (b : Vec Bool Global) → i < length ands → i < length vs
    → a ≡ get_or ands i a → (new : Vec Bool Global) → new.items ≡ judged_terms n v (map test_view a.items) (get_or vs i b).items
    → take (i + 1) (verdicts_view (set vs i new)) ++ renewed (judged_terms n v) (ands_view (drop (i + 1) ands)) (drop (i + 1) (verdicts_view (set vs i new)))
    ≡ take i (verdicts_view vs) ++ renewed (judged_terms n v) (ands_view (drop i ands)) (drop i (verdicts_view vs))
next_views n v ands vs i a b few lt is new made =
    let f = judged_terms n v in
    let rest = ands_view (drop (i + 1) ands) in
    let x : List Test = map test_view a.items in
    let here : x ∷ rest ≡ ands_view (drop i ands) = ap (λ (c : Vec CodeTest Global). map test_view c.items ∷ rest) is ∙ sym (ap ands_view (drop_more ands i a few)) in
    let step = renew_next f x rest (verdicts_view vs) i b.items (let s = view_length vs in omega (arith, s, lt)) new.items (made ∙ ap (f x) (view_get vs i b)) in
    ap (λ (ws : List (List Bool)). take (i + 1) ws ++ renewed f rest (drop (i + 1) ws)) (view_set vs i new)
    ∙ ap (λ (k : ℕ). take k (set (verdicts_view vs) i new.items) ++ renewed f rest (drop k (set (verdicts_view vs) i new.items))) (add-one i)
    ∙ step ∙ ap (λ (zs : List (List Test)). take i (verdicts_view vs) ++ renewed f zs (drop i (verdicts_view vs))) here

-- ---- a look at one leaf

module _ (n : ℕ) (v : ValueTree) (before after : ValueTrees) (put : IsPutAt n v before after) where
  one_put : (t : Test) → verdict n v t (holds t (member_at t.leaf before)) ≡ holds t (member_at t.leaf after)
  one_put t = by (t.leaf == n) refl
    where
      by : (b : Bool) → (t.leaf == n) ≡ b → cond b (holds t v) (holds t (member_at t.leaf before)) ≡ holds t (member_at t.leaf after)
      by true is = ap (holds t) (sym put.0 ∙ ap (λ (m : ℕ). member_at m after) (sym (eqb-true t.leaf n is)))
      by false is = ap (holds t) (sym (put.1 t.leaf (λ e. false≢true (sym is ∙ (let same : (t.leaf == n) ≡ true = grind (arith, nat_tests) in same)))))

  terms_put : (terms : List Test) → judged_terms n v terms (map (λ (t : Test). holds t (member_at t.leaf before)) terms) ≡ map (λ (t : Test). holds t (member_at t.leaf after)) terms
  terms_put [] = refl
  terms_put (t ∷ terms) =
      ap (λ (b : Bool). b ∷ judged_terms n v terms (map (λ (u : Test). holds u (member_at u.leaf before)) terms)) (one_put t)
      ∙ ap (λ (bs : List Bool). holds t (member_at t.leaf after) ∷ bs) (terms_put terms)

  pub tests_put : (tests : List (List Test)) → judged n v tests (verdicts_of tests before) ≡ verdicts_of tests after
  tests_put [] = refl
  tests_put (terms ∷ tests) =
      ap (λ (bs : List Bool). bs ∷ judged n v tests (verdicts_of tests before)) (terms_put terms)
      ∙ ap (λ (bs : List (List Bool)). map (λ (t : Test). holds t (member_at t.leaf after)) terms ∷ bs) (tests_put tests)

-- ---- all leaves

all_true : (terms : List Test) (leaves : ValueTrees) → list_all (λ (b : Bool). b) (map (λ (t : Test). holds t (member_at t.leaf leaves)) terms) ≡ list_all (λ t. holds t (member_at t.leaf leaves)) terms
all_true [] leaves = refl
all_true (t ∷ terms) leaves = ap (λ (b : Bool). holds t (member_at t.leaf leaves) && b) (all_true terms leaves)

pub some_true : (tests : List (List Test)) (leaves : ValueTrees)
    → list_any (λ (terms : List Bool). list_all (λ b. b) terms) (verdicts_of tests leaves) ≡ list_any (λ terms. list_all (λ t. holds t (member_at t.leaf leaves)) terms) tests
some_true [] leaves = refl
some_true (terms ∷ tests) leaves =
    ap (λ (b : Bool). b || list_any (λ (ts : List Bool). list_all (λ b. b) ts) (verdicts_of tests leaves)) (all_true terms leaves)
    ∙ ap (λ (b : Bool). list_all (λ t. holds t (member_at t.leaf leaves)) terms || b) (some_true tests leaves)

-- ---- the first verdicts

after_these : (done : List (Vec Bool Global)) (v : Vec Bool Global) (rest : List (List Bool)) → verdicts_view (done ++ v ∷ []) ++ rest ≡ verdicts_view done ++ v.items ∷ rest
after_these [] v rest = refl
after_these (w ∷ done) v rest = ap (λ (t : List (List Bool)). w.items ∷ t) (after_these done v rest)

pub more_verdicts : (leaves : ValueTrees) (ands : List (Vec CodeTest Global)) (i : ℕ) (a : Vec CodeTest Global) → i < length ands → a ≡ get_or ands i a
    → (done new : List (Vec Bool Global)) (v : Vec Bool Global) → new ≡ done ++ v ∷ [] → v.items ≡ map (λ (t : Test). holds t (member_at t.leaf leaves)) (map test_view a.items)
    → verdicts_view new ++ verdicts_of (ands_view (drop (i + 1) ands)) leaves ≡ verdicts_view done ++ verdicts_of (ands_view (drop i ands)) leaves
more_verdicts leaves ands i a lt is done new v put made =
    let rest = verdicts_of (ands_view (drop (i + 1) ands)) leaves in
    let one = λ (c : Vec CodeTest Global). map (λ (t : Test). holds t (member_at t.leaf leaves)) (map test_view c.items) in
    ap (λ (ws : List (Vec Bool Global)). verdicts_view ws ++ rest) put ∙ after_these done v rest
    ∙ ap (λ (bs : List Bool). verdicts_view done ++ bs ∷ rest) (made ∙ ap one is)
    ∙ ap (λ (cs : List (Vec CodeTest Global)). verdicts_view done ++ verdicts_of (ands_view cs) leaves) (sym (drop_more ands i a lt))
