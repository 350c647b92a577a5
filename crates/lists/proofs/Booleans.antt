-- Booleans and tests.
use Rattle.std.proofs.Common.{◌↔◌, Bool, cond, false, refl, true, ◌||◌, ◌≡◌, ◌&&◌, not, IsTrue, sym, ◌∙◌, if◌then◌else◌, subst, is_eq}
use Rattle.std.proofs.lemmas.Bool.{false≢true}
use Rattle.std.specs.Ordering.{bool_cmp}
use Rattle.std.specs.declared.cmp.Ordering.{Ordering}
use Rattle.std.specs.declared.cmp.Ordering.TheVariants.{Equal, Greater, Less}
use mathlib.Core.Bool.{beq}

-- an equivalence through a third proposition
pub iff_through : {A B C : Type 0} → A ↔ B → B ↔ C → A ↔ C
iff_through f g = (λ a. g.0 (f.0 a), λ c. f.1 (g.1 c))

-- a branch that is true is a disjunction
pub cond_is_or : (a b : Bool) → cond a true b ≡ (a || b)
cond_is_or true b = refl
cond_is_or false b = refl

-- where both hold the first does
pub and_first : (a b : Bool) → (a && b) ≡ true → a ≡ true
and_first true b e = refl
and_first false b e = absurd (cc)

-- where both hold the second does
pub and_second : (a b : Bool) → (a && b) ≡ true → b ≡ true
and_second true b p = p
and_second false b p = cc

-- a conjunction with true
pub and_true : (b : Bool) → (b && true) ≡ b
and_true true = refl
and_true false = refl

-- a conjunction with false
pub and_false : (b : Bool) → b && false ≡ false
and_false true = refl
and_false false = refl

-- a disjunction of three
pub or_assoc : (a b c : Bool) → ((a || b) || c) ≡ (a || (b || c))
or_assoc true b c = refl
or_assoc false b c = refl

-- a disjunction with false
pub or_false : (a : Bool) → (a || false) ≡ a
or_false true = refl
or_false false = refl

-- where the negation is false it is true; the equation is turned round
pub true_by_false_not : (b : Bool) → false ≡ not b → b ≡ true
true_by_false_not true e = cc
true_by_false_not false e = cc

-- where the negation is true it is false; the equation is turned round
pub false_by_true_not : (b : Bool) → true ≡ not b → b ≡ false
false_by_true_not true e = cc
false_by_true_not false e = cc

-- nothing is both true and false
pub not_true_and_false : (r : Bool) → IsTrue r → r ≡ false → ⊥
not_true_and_false r t e = false≢true (sym e ∙ t)

-- the first branch, where the test holds
pub if_true : {A : Type 0} (b : Bool) (x y : A) → b ≡ true → (if b then x else y) ≡ x
if_true true x y is = refl
if_true false x y is = absurd (let P : Bool → Type 0 = elim [ false ↦ Unit {0} | true ↦ ⊥ ] in subst P is tt)

-- the second branch, where the test fails
pub if_false : {A : Type 0} (b : Bool) (x y : A) → b ≡ false → (if b then x else y) ≡ y
if_false false x y is = refl
if_false true x y is = absurd (let P : Bool → Type 0 = elim [ true ↦ Unit {0} | false ↦ ⊥ ] in subst P is tt)

-- booleans that compare equal are equal
pub same_by_beq : (a b : Bool) → beq a b ≡ true → a ≡ b
same_by_beq true true h = refl
same_by_beq false false h = refl
same_by_beq true false h = cc
same_by_beq false true h = cc

-- a boolean compares equal to itself
pub beq_itself : (a : Bool) → beq a a ≡ true
beq_itself true = refl
beq_itself false = refl

-- booleans that are equal in order are equal
pub same_by_bool_cmp : (a b : Bool) → bool_cmp a b ≡ Equal → a ≡ b
same_by_bool_cmp false false h = refl
same_by_bool_cmp false true h = cc
same_by_bool_cmp true false h = cc
same_by_bool_cmp true true h = refl

-- the order that a test calls equal is Equal
pub equal_by_is_eq : (o : Ordering) → is_eq o ≡ true → o ≡ Equal
equal_by_is_eq Less h = cc
equal_by_is_eq Equal h = refl
equal_by_is_eq Greater h = cc
