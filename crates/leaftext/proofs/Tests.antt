-- What tests and what was found tell.
use Rattle.std.proofs.Common.{◌≡◌, ℕ, zero, suc, ◌<◌, List, Bool, true, false, nat_eq, ◌⊎◌, inl, inr, Option, Some, None, if◌then◌else◌, refl, sym, ◌∙◌, ap, arith}
use Rattle.std.specs.Option.{option_or}
use Rattle.std.specs.Cmp.Lexicographic.{pointwise, same_text, other_text}
use Rattle.leaftext.specs.Finding.{first_below}

pub false_true : {X : Type 0} → false ≡ true → X
false_true e = absurd (cc)

-- what a test lets through
pub passed : {A : Type 0} (b : Bool) (x a : A) → (if b then Some x else None) ≡ Some a → (b ≡ true) × (x ≡ a)
passed true x a e = (refl, cc)
passed false x a e = absurd (cc)

pub stopped : {A : Type 0} (b : Bool) (x : A) → (if b then Some x else None) ≡ None → b ≡ true → ⊥
stopped true x e t = cc
stopped false x e t = cc

pub lets : {A : Type 0} (b : Bool) (x : A) → b ≡ true → (if b then Some x else None) ≡ Some x
lets true x e = refl
lets false x e = absurd (cc)

pub same_bytes : (a b : List ℕ) → pointwise nat_eq a b ≡ true → a ≡ b
same_bytes a b e = same_text a b (sym e)

pub bytes_same : (a b : List ℕ) → a ≡ b → pointwise nat_eq a b ≡ true
bytes_same a b e = go (pointwise nat_eq a b) refl
  where
    go : (t : Bool) → pointwise nat_eq a b ≡ t → pointwise nat_eq a b ≡ true
    go true h = h
    go false h = absurd (other_text a b (sym h) e)

-- ---- what is found

found_in : {A : Type 0} (n : ℕ) (found : ℕ → Option A) (a : A) (o : Option A) → ((o ≡ Some a) → (i : ℕ) × (i < n) × (found i ≡ Some a)) → option_or o (found n) ≡ Some a → (i : ℕ) × (i < suc n) × (found i ≡ Some a)
found_in n found a None before e = (n, omega arith, e)
found_in n found a (Some b) before e = let w = before e in (w.0, omega (arith, w.1), w.2)

-- what is found is found of some number
pub found_at : {A : Type 0} (n : ℕ) (found : ℕ → Option A) (a : A) → first_below n found ≡ Some a → (i : ℕ) × (i < n) × (found i ≡ Some a)
unfolding first_below
found_at zero found a e = absurd (cc)
found_at (suc n) found a e = found_in n found a (first_below n found) (found_at n found a) e

missed_in : {A : Type 0} (o p : Option A) → option_or o p ≡ None → (o ≡ None) × (p ≡ None)
missed_in None p e = (refl, e)
missed_in (Some a) p e = absurd (cc)

-- where nothing is found, nothing is found of any number
pub missed_at : {A : Type 0} (n : ℕ) (found : ℕ → Option A) → first_below n found ≡ None → (i : ℕ) → i < n → found i ≡ None
unfolding first_below
missed_at zero found e i h = absurd (omega (arith, h))
missed_at (suc n) found e i h =
    let parts = missed_in (first_below n found) (found n) e in
    elim (last i n h) [ inl less ↦ missed_at n found parts.0 i less | inr same ↦ ap found same ∙ parts.1 ]
  where
    last : (i n : ℕ) → i < suc n → (i < n) ⊎ (i ≡ n)
    last i n h = grind (arith, h)

-- ---- one answer

-- a function that answers what stands, and answers wherever something stands, answers all that stands, if only one does
pub answers : {A : Type 0} (Stands : A → Type 0) (o : Option A) (a : A) → ((x : A) → o ≡ Some x → Stands x) → (o ≡ None → ⊥) → ((x : A) → Stands x → x ≡ a) → o ≡ Some a
answers Stands None a sound some one = absurd (some refl)
answers Stands (Some x) a sound some one = ap Some (one x (sound x refl))
