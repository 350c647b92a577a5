-- The values of flags.
use Rattle.std.specs.Prelude.{◌≡◌, ℕ, Bool, true, false, List, Option, Some, None, codes}

-- a flag is up where its text is `true`, and down where that is `false` or where there is none
abbrev pub IsFlag : Option (List ℕ) → Bool → Type 0
IsFlag text flag = (text ≡ Some (codes "true") → flag ≡ true) × (text ≡ Some (codes "false") → flag ≡ false) × (text ≡ None → flag ≡ false)
