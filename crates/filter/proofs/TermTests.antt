-- The tests of a filter are at leaves.
use Rattle.std.proofs.Common.{◌≡◌, ℕ, suc, ◌-◌, ◌≤◌, Bool, true, false, ◌&&◌, List, [], ◌∷◌, Option, Some, None, Result, Ok, Err, IsTrue, refl, ap, sym, ◌∙◌, subst, arith}
use Rattle.std.specs.Prelude.{cond, is_none}
use Rattle.std.specs.List.{slice_get, AllByRecursion, list_all}
use Rattle.std.specs.Str.{bytes_eq}
use Rattle.std.specs.Cmp.Lexicographic.{pointwise, pointwise_decides, bytes_decides}
use Rattle.std.proofs.lemmas.Bool.{and_parts}
use Rattle.bits.specs.declared.refusal.Refusal.{Refusal}
use Rattle.bits.specs.declared.refusal.Refusal.TheVariants.{NoColumn, Unordered, RowShape}
use Rattle.schema.specs.Annotations.{order_of}
use Rattle.schema.specs.Stripe.{Step, Leaf}
use Rattle.filter.specs.Test.{Test, is_single, steps_of}
use Rattle.filter.specs.Terms.{Term, named_leaf, is_of_order, takes, test_at, test_found, test_of, then_rest, each_of, tests_of}

-- a test is at a leaf, below no repeated field, and has the leaf's order
pub record IsTestOf (leaves : List Leaf) (t : Test) : Type 0 where
  pub leaf : Leaf
  pub there : slice_get leaves t.leaf ≡ Some leaf
  pub way : leaf.steps ≡ steps_of t
  pub single : AllByRecursion (λ s. IsTrue (is_single s)) (steps_of t)
  pub order : t.order ≡ order_of leaf.leaf_type

record IsNamed (n : ℕ) (leaves : List Leaf) (names : List (List ℕ)) (found : ℕ × Leaf) : Type 0 where
  above : n ≤ found.0
  there : slice_get leaves (found.0 - n) ≡ Some found.1
  called : found.1.path ≡ names

named_is : (n : ℕ) (leaves : List Leaf) (names : List (List ℕ)) (found : ℕ × Leaf) → named_leaf n leaves names ≡ Some found → IsNamed n leaves names found
named_is n [] names found h = absurd (cc)
named_is n (l ∷ leaves) names found h = by (pointwise bytes_eq l.path names) refl h (named_is (suc n) leaves names found)
  where
    by : (b : Bool) → pointwise bytes_eq l.path names ≡ b → cond b (Some (n, l)) (named_leaf (suc n) leaves names) ≡ Some found → (named_leaf (suc n) leaves names ≡ Some found → IsNamed (suc n) leaves names found) → IsNamed n (l ∷ leaves) names found
    by true e h more =
        let number : n ≡ found.0 = cc in
        let same : l ≡ found.1 = cc in
        let none : found.0 - n ≡ 0 = omega (arith, number) in
        record { above = omega (arith, number); there = ap (λ (k : ℕ). slice_get (l ∷ leaves) k) none ∙ ap Some same; called = ap (λ (x : Leaf). x.path) (sym same) ∙ (pointwise_decides bytes_decides l.path names).0 e }
    by false e h more =
        let m = more h in
        let next : found.0 - n ≡ suc (found.0 - suc n) = omega (arith, m.above) in
        record { above = omega (arith, m.above); there = ap (λ (k : ℕ). slice_get (l ∷ leaves) k) next ∙ m.there; called = m.called }

all_pass : (p : Step → Bool) (xs : List Step) → list_all p xs ≡ true → AllByRecursion (λ x. IsTrue (p x)) xs
all_pass p [] h = tt
all_pass p (x ∷ xs) h = let parts = and_parts (p x) (list_all p xs) h in (parts.0, all_pass p xs parts.1)

abbrev made_of : Term → ℕ → Leaf → Step → List Step → Test
made_of t n l s p = record { leaf = n; first = s; rest = p; order = order_of l.leaf_type; op = t.op; operand = t.value }

pub record IsMade (t : Term) (n : ℕ) (l : Leaf) (steps : List Step) (u : Test) : Type 0 where
  pub op : u.op ≡ t.op
  pub operand : u.operand ≡ t.value
  pub number : u.leaf ≡ n
  pub way : steps ≡ steps_of u
  pub single : AllByRecursion (λ s. IsTrue (is_single s)) (steps_of u)
  pub order : u.order ≡ order_of l.leaf_type

made_is : (t : Term) (n : ℕ) (l : Leaf) (steps : List Step) (u : Test) → test_at t n l steps ≡ Ok u → IsMade t n l steps u
made_is t n l [] u h = absurd (cc)
made_is t n l (s ∷ p) u h = by (list_all is_single (s ∷ p)) (is_of_order t.op && is_none (order_of l.leaf_type)) (takes l.leaf_type t.op t.value) refl h
  where
    by : (a b c : Bool) → list_all is_single (s ∷ p) ≡ a → (cond a (cond b (Err Unordered) (cond c (Ok (made_of t n l s p)) (Err RowShape))) (Err NoColumn)) ≡ Ok u → IsMade t n l (s ∷ p) u
    by true true c e h = absurd (cc)
    by true false true e h =
        let same : made_of t n l s p ≡ u = cc in
        subst (λ (x : Test). IsMade t n l (s ∷ p) x) same (record { op = refl; operand = refl; number = refl; way = refl; single = all_pass is_single (s ∷ p) e; order = refl })
    by true false false e h = absurd (cc)
    by false b c e h = absurd (cc)

-- the test of a term: at the leaf that it names, with its operator and its value
pub record IsTermAt (leaves : List Leaf) (t : Term) (u : Test) : Type 0 where
  pub of : IsTestOf leaves u
  pub path : of.leaf.path ≡ t.column
  pub op : u.op ≡ t.op
  pub operand : u.operand ≡ t.value

pub term_is_at : (leaves : List Leaf) (t : Term) (u : Test) → test_of leaves t ≡ Ok u → IsTermAt leaves t u
term_is_at leaves t u h = by (named_leaf 0 leaves t.column) refl h
  where
    by : (found : Option (ℕ × Leaf)) → named_leaf 0 leaves t.column ≡ found → test_found t found ≡ Ok u → IsTermAt leaves t u
    by None e h = absurd (cc)
    by (Some found) e h =
        let named = named_is 0 leaves t.column found e in
        let made = made_is t found.0 found.1 found.1.steps u h in
        let at : found.0 - 0 ≡ u.leaf = omega (arith, made.number) in
        record { of = record { leaf = found.1; there = ap (slice_get leaves) (sym at) ∙ named.there; way = made.way; single = made.single; order = made.order }; path = named.called; op = made.op; operand = made.operand }

pub test_is_of : (leaves : List Leaf) (t : Term) (u : Test) → test_of leaves t ≡ Ok u → IsTestOf leaves u
test_is_of leaves t u h = (term_is_at leaves t u h).of

each_holds : {X Y : Type 0} (f : X → Result Y Refusal) (P : Y → Type 0) → ((x : X) (y : Y) → f x ≡ Ok y → P y) → (xs : List X) (ys : List Y) → each_of f xs ≡ Ok ys → AllByRecursion P ys
each_holds f P h [] [] e = tt
each_holds f P h [] (y ∷ ys) e = absurd (cc)
each_holds {X = X} {Y = Y} f P h (x ∷ xs) ys e = by (f x) refl (each_of f xs) ys e (each_holds f P h xs)
  where
    by : (r : Result Y Refusal) → f x ≡ r → (rest : Result (List Y) Refusal) (ys : List Y) → then_rest r rest ≡ Ok ys → ((zs : List Y) → rest ≡ Ok zs → AllByRecursion P zs) → AllByRecursion P ys
    by (Err g) is rest ys e more = absurd (cc)
    by (Ok y) is (Err g) ys e more = absurd (cc)
    by (Ok y) is (Ok zs) ys e more = let same : y ∷ zs ≡ ys = cc in subst (AllByRecursion P) same (h x y is, more zs refl)

pub tests_are_of : (leaves : List Leaf) (terms : List (List Term)) (tests : List (List Test)) → tests_of leaves terms ≡ Ok tests → AllByRecursion (AllByRecursion (IsTestOf leaves)) tests
tests_are_of leaves terms tests h = each_holds (each_of (test_of leaves)) (AllByRecursion (IsTestOf leaves)) (λ ts us e. each_holds (test_of leaves) (IsTestOf leaves) (test_is_of leaves) ts us e) terms tests h
