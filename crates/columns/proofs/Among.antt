-- A number at the front of places, and numbers that are another.
use Rattle.std.proofs.Common.{◌≡◌, ℕ, ◌<◌, Bool, true, false, ◌||◌, nat_eq, refl, arith, eqb-true}

pub not_before : (at n : ℕ) (b : Bool) → n < at → b ≡ false → (nat_eq at n || b) ≡ false
not_before at n b h none = by (nat_eq at n) refl
  where
    by : (t : Bool) → nat_eq at n ≡ t → (t || b) ≡ false
    by true e = absurd (omega (arith, h, eqb-true at n e))
    by false e = none
