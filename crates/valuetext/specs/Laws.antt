-- What has a text is read back from it, and no text is that of two numbers.
use Rattle.std.specs.Prelude.{◌≡◌, ℕ, ℤ, List}
use Rattle.valuetext.specs.declared.unit.TimeUnit.{TimeUnit}
use Rattle.valuetext.specs.Dates.{IsDateText}
use Rattle.valuetext.specs.Times.{IsTimeText, ReadsTime}
use Rattle.valuetext.specs.Timestamps.{IsTimestampText, ReadsTimestamp}
use Rattle.valuetext.specs.Decimals.{IsDecimalText, ReadsDecimal}

-- no number has two texts
abbrev pub HasOneText : (ℤ → List ℕ → Type 0) → Type 0
HasOneText IsText = (number : ℤ) (a b : List ℕ) → IsText number a → IsText number b → a ≡ b

-- no text is read as two numbers
abbrev pub IsOneNumber : (ℤ → List ℕ → Type 0) → Type 0
IsOneNumber Reads = (text : List ℕ) (a b : ℤ) → Reads a text → Reads b text → a ≡ b

-- a number's text is read as that number
abbrev pub IsReadBack : (ℤ → List ℕ → Type 0) → (ℤ → List ℕ → Type 0) → Type 0
IsReadBack IsText Reads = (number : ℤ) (text : List ℕ) → IsText number text → Reads number text

-- a day has one text, which is that of no other day
abbrev pub DatesReadBack : Type 0
DatesReadBack = HasOneText IsDateText × IsOneNumber IsDateText

-- a time of day has one text, which is read as that time, and no text is read as two times
abbrev pub TimesReadBack : Type 0
TimesReadBack = (unit : TimeUnit) → HasOneText (IsTimeText unit) × IsReadBack (IsTimeText unit) (ReadsTime unit) × IsOneNumber (ReadsTime unit)

-- a timestamp has one text, which is read as that timestamp, and no text is read as two timestamps
abbrev pub TimestampsReadBack : Type 0
TimestampsReadBack =
    (unit : TimeUnit) → HasOneText (IsTimestampText unit) × IsReadBack (IsTimestampText unit) (ReadsTimestamp unit) × IsOneNumber (ReadsTimestamp unit)

-- a number with a scale has one text, which is read as that number, and no text is read as two numbers
abbrev pub DecimalsReadBack : Type 0
DecimalsReadBack =
    (scale : ℕ) → HasOneText (IsDecimalText scale) × IsReadBack (IsDecimalText scale) (ReadsDecimal scale) × IsOneNumber (ReadsDecimal scale)
