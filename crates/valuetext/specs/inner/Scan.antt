-- What the digits of a text come to, whatever stands between them.
use Rattle.std.specs.Prelude.{ℕ, ◌+◌, ◌-◌, ◌*◌, ◌==◌, ◌||◌, List, [], ◌∷◌, length, slice_index, if◌then◌else◌, ℤ}
use Rattle.jiff_core.specs.Sign.{signed}

-- the number with one more byte of a text: a digit goes to its end, and a dot or a minus sign counts for nothing
abbrev pub with_byte : ℕ → ℕ → ℕ
with_byte n b = if (b == 46) || (b == 45) then n else n * 10 + (b - 48)

-- the number with the bytes of a text
unfoldable pub digits_after : ℕ → List ℕ → ℕ
digits_after n [] = n
digits_after n (b ∷ rest) = digits_after (with_byte n b) rest

-- how many bytes come after the first dot; without a dot none
unfoldable pub places_in : List ℕ → ℕ
places_in [] = 0
places_in (b ∷ rest) = if b == 46 then length rest else places_in rest

-- the number that a text shows: below zero if it begins with a minus sign
abbrev pub number_written : List ℕ → ℤ
number_written text = signed (slice_index text 0 == 45) (digits_after 0 text)
