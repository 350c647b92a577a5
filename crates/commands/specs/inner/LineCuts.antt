-- Where bytes are cut into lines.
use Rattle.std.specs.Prelude.{◌≡◌, ℕ, suc, ⊤, Bool, false, List, [], ◌∷◌, ◌++◌, ◌==◌, length, take}
use Rattle.commands.specs.FileLines.{AreWholeLines}

-- no byte is a line feed
abbrev pub HasNoFeed : List ℕ → Type 0
HasNoFeed [] = ⊤
HasNoFeed (b ∷ bytes) = ((b == 10) ≡ false) × HasNoFeed bytes

-- The first line of bytes has this length, with its line feed. It may be the last one and have none.
pub data IsLineLength (bytes : List ℕ) (n : ℕ) : Type 0 where
  ended : (front after : List ℕ) → HasNoFeed front → bytes ≡ front ++ 10 ∷ after → n ≡ suc (length front) → IsLineLength bytes n
  open_ended : HasNoFeed bytes → n ≡ length bytes → IsLineLength bytes n

-- the first so many bytes are whole lines; all bytes are where no more come
abbrev pub IsWholeLength : List ℕ → Bool → ℕ → Type 0
IsWholeLength bytes false n = n ≡ length bytes
IsWholeLength bytes _ n = AreWholeLines (take n bytes)
