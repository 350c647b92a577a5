-- Bytes by their hexadecimal digits in lower case.
use Rattle.std.specs.Prelude.{◌≡◌, ℕ, ◌+◌, ◌*◌, ◌/◌, ◌%◌, ◌<◌, ◌≤◌, Bool, true, ◌&&◌, ◌||◌, List, [], ◌∷◌, nat_le, get_or}
use Rattle.hex.specs.Hex.{encode_lower}
use Rattle.schema.specs.declared.value.Kind.{Kind}
use Rattle.schema.specs.Fits.{fits_kind}
use Rattle.schema.specs.Values.{bytes}

-- a byte is a hexadecimal digit in lower case
abbrev pub is_lower_digit : ℕ → Bool
is_lower_digit c = (nat_le 48 c && nat_le c 57) || (nat_le 97 c && nat_le c 102)

-- each byte from an index up to another is a hexadecimal digit in lower case
abbrev pub DigitsBetween : List ℕ → ℕ → ℕ → Type 0
DigitsBetween s i j = (k : ℕ) → i ≤ k → k < j → is_lower_digit (get_or s k 0) ≡ true

-- the value of a digit
abbrev pub digit_value : ℕ → ℕ
digit_value c = c % 16 + 9 * (c / 64)

-- the byte of two digits
abbrev pub pair_value : ℕ → ℕ → ℕ
pair_value a b = (digit_value a * 16 + digit_value b) % 256

-- the bytes of digits, two for each
abbrev pub bytes_of_pairs : List ℕ → List ℕ
bytes_of_pairs (a ∷ b ∷ s) = pair_value a b ∷ bytes_of_pairs s
bytes_of_pairs _ = []

-- the bytes are the hexadecimal digits, in lower case, of bytes of the type
abbrev pub AreDigitsOf : Kind → List ℕ → Type 0
AreDigitsOf k s = (encode_lower (bytes_of_pairs s) ≡ s) × (fits_kind k (bytes (bytes_of_pairs s)) ≡ true)
