-- What is found by going through numbers.
use Rattle.std.specs.Prelude.{ℕ, zero, suc, Option, None}
use Rattle.std.specs.Option.{option_or}

-- the first that is found of the numbers below n; None if nothing is
unfoldable pub first_below : {A : Type 0} → ℕ → (ℕ → Option A) → Option A
first_below zero found = None
first_below (suc n) found = option_or (first_below n found) (found n)
