-- What writing a page leaves.
use Rattle.std.specs.Prelude.{◌≡◌, ℕ, List, ◌++◌}

-- only the end is new
abbrev pub Extends : List ℕ → List ℕ → Type 0
Extends old new = (text : List ℕ) × (new ≡ old ++ text)
