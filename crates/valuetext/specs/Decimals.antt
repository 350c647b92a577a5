-- Decimal numbers as text: LogicalTypes.md, DECIMAL.
use Rattle.std.specs.Prelude.{◌≡◌, ℕ, zero, suc, ◌-◌, ◌/◌, ◌%◌, ◌^◌, ◌≤◌, ℤ, pos, negsuc, neg_ℤ, ◌*ℤ◌, unsigned_abs, List, [], ◌∷◌, ◌++◌}
use Rattle.std.specs.Fmt.{decimal}
use Rattle.jiff_core.specs.Calendar.{IsBetween}
use Rattle.jiff_fmt.specs.Text.{places}

-- a minus sign before a number below zero
abbrev pub sign_of : ℤ → List ℕ
sign_of (pos n) = []
sign_of (negsuc n) = 45 ∷ []

-- a dot, and so many digits of the rest that a power of ten leaves; without places nothing
abbrev pub fraction_of : ℕ → ℕ → List ℕ
fraction_of zero n = []
fraction_of (suc k) n = 46 ∷ places (suc k) (10 ^ suc k) (n % 10 ^ suc k)

-- the text of a magnitude with a scale: it is divided by that power of ten, and has as many places
abbrev pub unsigned_text : ℕ → ℕ → List ℕ
unsigned_text scale n = decimal (n / 10 ^ scale) ++ fraction_of scale n

-- the text of a number with a scale, as 1176.14
abbrev pub decimal_text : ℕ → ℤ → List ℕ
decimal_text scale number = sign_of number ++ unsigned_text scale (unsigned_abs number)

-- a number of at most 16 bytes
abbrev pub IsDecimalNumber : ℤ → Type 0
IsDecimalNumber number = IsBetween (neg_ℤ (pos (2 ^ 127))) (pos (2 ^ 127 - 1)) number

-- the text is that of a number of at most 16 bytes with a scale of at most 38
abbrev pub IsDecimalText : ℕ → ℤ → List ℕ → Type 0
IsDecimalText scale number text = (scale ≤ 38) × IsDecimalNumber number × (text ≡ decimal_text scale number)

-- the text is read as a number with a scale: it has at most so many places, and is the text of the same value with these
abbrev pub ReadsDecimal : ℕ → ℤ → List ℕ → Type 0
ReadsDecimal scale number text =
    (places : ℕ) × (shown : ℤ) × (places ≤ scale) × (number ≡ shown *ℤ pos (10 ^ (scale - places))) × IsDecimalText places shown text
