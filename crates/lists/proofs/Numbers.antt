-- Numbers and tests on them.
use Rattle.std.proofs.Common.{eq-eqb, nat_eq, refl, true, ℕ, ◌≡◌, ◌<◌, arith, false, Bool, eqb-true, suc, ◌||◌, ◌≤◌, ◌==◌, if◌then◌else◌, FitsSigned, w16, w32, ℤ}
use Rattle.std.proofs.lemmas.Bool.Decides.{nat_tests, Decides-eqb}

-- a number is equal to itself, as a test
pub nat_eq_itself : (n : ℕ) → nat_eq n n ≡ true
nat_eq_itself n = eq-eqb n n refl

-- a number is not equal to a smaller one, as a test
pub nat_eq_above : (p i : ℕ) → i < p → nat_eq p i ≡ false
nat_eq_above p i lt = grind (arith, nat_tests)

-- a test for a greater number leaves a disjunction as it is
pub or_nat_eq_below : (at n : ℕ) (b : Bool) → suc at ≤ n → (nat_eq at n || b) ≡ b
or_nat_eq_below at n b h = by (nat_eq at n) refl
  where
    by : (t : Bool) → nat_eq at n ≡ t → (t || b) ≡ b
    by true e = absurd (omega (arith, h, eqb-true at n e))
    by false e = refl

-- a number is equal to itself, as a test by `==`
pub eq_itself : (n : ℕ) → (n == n) ≡ true
eq_itself n = eq-eqb n n refl

-- equal numbers are equal as a test by `==`
pub eq_from_same : (k m : ℕ) → k ≡ m → (k == m) ≡ true
eq_from_same k m h = (Decides-eqb k m).1 h

-- what bounds both branches bounds the one that is taken
pub if_at_most : (b : Bool) (x y most : ℕ) → x ≤ most → y ≤ most → (if b then x else y) ≤ most
if_at_most true x y most h g = h
if_at_most false x y most h g = g

-- what fits in 16 bits fits in 32
pub fits_wider : (z : ℤ) → FitsSigned w16 z → FitsSigned w32 z
fits_wider z p = record { sfits = omega (arith, p.sfits) }
