-- Files that are given one after another.
use Rattle.std.specs.Prelude.{◌≡◌, ℕ, List, ◌++◌, Option, Some, None}

-- after the files that were taken before, where these are known, stand the bytes of these
abbrev pub TakesFiles : Option (List (List ℕ)) → Option (List (List ℕ)) → List (List ℕ) → Type 0
TakesFiles None new files = Unit {0}
TakesFiles (Some old) None files = ⊥
TakesFiles (Some old) (Some new) files = new ≡ old ++ files
