-- Entries that are taken one by one.
use Rattle.std.specs.Prelude.{◌≡◌, List, ◌∷◌, Option}
use Rattle.schema.specs.Values.{ValueTree}
use Rattle.schema.specs.Stripe.{Entry}

-- the first of the old entries is taken, and has this value, where there is one
abbrev pub TakesEntry : List Entry → List Entry → Option ValueTree → Type 0
TakesEntry old new value = (e : Entry) × (old ≡ e ∷ new) × (e.value ≡ value)
