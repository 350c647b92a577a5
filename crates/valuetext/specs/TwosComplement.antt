-- Numbers as bytes in two's complement, the highest byte first: LogicalTypes.md, DECIMAL.
use Rattle.std.specs.Prelude.{◌≡◌, ℕ, ◌<◌, ◌≤◌, ◌==◌, ◌&&◌, ◌||◌, nat_lt, nat_le, Bool, false, if◌then◌else◌, ℤ, pos, ◌+ℤ◌, ◌-ℤ◌, ◌*ℤ◌, List, [], ◌∷◌, length}

-- each is a byte
unfoldable pub AreByteValues : List ℕ → Type 0
AreByteValues [] = Unit {0}
AreByteValues (b ∷ bytes) = (b < 256) × AreByteValues bytes

-- a byte as a number from -128 to 127
abbrev pub signed_byte : ℕ → ℤ
signed_byte b = if nat_lt b 128 then pos b else pos b -ℤ pos 256

-- the number that the bytes after another one make, each a digit to the base 256
unfoldable pub signed_after : ℤ → List ℕ → ℤ
signed_after number [] = number
signed_after number (b ∷ bytes) = signed_after (number *ℤ pos 256 +ℤ pos b) bytes

-- the number that bytes are: the first one has a sign
abbrev pub signed_of : List ℕ → ℤ
signed_of [] = pos 0
signed_of (b ∷ bytes) = signed_after (signed_byte b) bytes

-- the first byte only repeats the sign of the second
abbrev pub repeats_sign : List ℕ → Bool
repeats_sign [] = false
repeats_sign (a ∷ []) = false
repeats_sign (a ∷ (b ∷ bytes)) = ((a == 0) && nat_lt b 128) || ((a == 255) && nat_le 128 b)

-- bytes of one length are those of one number
abbrev pub BytesReadBack : Type 0
BytesReadBack = (a b : List ℕ) → AreByteValues a → AreByteValues b → length a ≡ length b → signed_of a ≡ signed_of b → a ≡ b

-- there are bytes, and the first does not only repeat the sign of the second
abbrev pub AreShortest : List ℕ → Type 0
AreShortest bytes = (1 ≤ length bytes) × (repeats_sign bytes ≡ false)

-- of all bytes that are a number, those whose first one does not only repeat the sign are the shortest, and no other bytes are as short
abbrev pub ShortestAreFewest : Type 0
ShortestAreFewest =
    (a b : List ℕ) → AreByteValues a → AreByteValues b → AreShortest a → 1 ≤ length b → signed_of a ≡ signed_of b
    → (length a ≤ length b) × (length b ≤ length a → a ≡ b)
