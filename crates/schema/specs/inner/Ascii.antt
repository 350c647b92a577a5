-- Bytes of which some are known to be ASCII.
use Rattle.std.specs.Prelude.{ℕ, ◌<◌, ◌≤◌, List, get_or}

-- each byte from the index i on and before the index j is ASCII
abbrev pub AreAsciiBetween : List ℕ → ℕ → ℕ → Type 0
AreAsciiBetween bytes i j = (k : ℕ) → i ≤ k → k < j → get_or bytes k 0 < 128
