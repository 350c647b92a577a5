-- What a comparison of two texts tells.
use Rattle.std.proofs.Common.{◌≡◌, ℕ, List, Bool, true, false, not, nat_eq, refl, sym, ◌∙◌}
use Rattle.std.specs.Prelude.{IsTrue, ◌↔◌}
use Rattle.std.specs.Cmp.Lexicographic.{pointwise, same_text, other_text}
use Rattle.std.proofs.lemmas.Bool.{false≢true as false_true}

both : (p : Bool) → true ≡ not p → false ≡ p
both false e = refl
both true e = absurd cc

neither : (p : Bool) → false ≡ not p → true ≡ p
neither true e = refl
neither false e = absurd cc

pub is_true : (r : Bool) → r ≡ true → IsTrue r
is_true r e = e

-- a test that is false where nothing holds
pub never : {X : Type 0} → (X → ⊥) → IsTrue false ↔ X
never h = (λ e. absurd (false_true e), λ x. absurd (h x))

-- two texts that are told apart are not the same
pub told_apart : (differ : Bool) (a b : List ℕ) → differ ≡ not (pointwise nat_eq a b) → differ ≡ true → a ≡ b → ⊥
told_apart differ a b e d = other_text a b (both _ (sym d ∙ e))

-- two texts that are not told apart are the same
pub told_same : (differ : Bool) (a b : List ℕ) → differ ≡ not (pointwise nat_eq a b) → differ ≡ false → a ≡ b
told_same differ a b e d = same_text a b (neither _ (sym d ∙ e))

-- the same of a test for equal texts
pub not_same : (same : Bool) (a b : List ℕ) → same ≡ pointwise nat_eq a b → same ≡ false → a ≡ b → ⊥
not_same same a b e d = other_text a b (sym d ∙ e)

pub are_same : (same : Bool) (a b : List ℕ) → same ≡ pointwise nat_eq a b → same ≡ true → a ≡ b
are_same same a b e d = same_text a b (sym d ∙ e)

pub test_same : (same : Bool) (a b : List ℕ) → same ≡ pointwise nat_eq a b → a ≡ b → same ≡ true
test_same true a b e d = refl
test_same false a b e d = absurd (not_same false a b e refl d)
