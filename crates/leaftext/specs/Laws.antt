-- The functions and the relations of `valuetext` say the same.
use Rattle.std.specs.Prelude.{◌≡◌, ◌↔◌, ℕ, ◌≤◌, ℤ, List, length, Option, Some}
use Rattle.valuetext.specs.declared.unit.TimeUnit.{TimeUnit}
use Rattle.valuetext.specs.Dates.{IsDateText}
use Rattle.valuetext.specs.Times.{IsTimeText, ReadsTime}
use Rattle.valuetext.specs.Timestamps.{IsTimestampText, ReadsTimestamp}
use Rattle.valuetext.specs.Decimals.{IsDecimalNumber, IsDecimalText, ReadsDecimal}
use Rattle.valuetext.specs.TwosComplement.{AreByteValues, AreShortest, signed_of}
use Rattle.leaftext.specs.declared.leaf_form.Form.{Form}
use Rattle.leaftext.specs.declared.leaf_form.Form.TheVariants.{ShortestBytes, FixedBytes}
use Rattle.leaftext.specs.Forms.{form_bytes_text, form_bytes_read}
use Rattle.leaftext.specs.Texts.{date_text_of, time_text_of, timestamp_text_of, decimal_text_of}
use Rattle.leaftext.specs.Reads.{date_read, time_read, timestamp_read, decimal_read}

-- the function returns the text of each number that has one, and nothing for any other
abbrev pub Prints : (ℤ → Option (List ℕ)) → (ℤ → List ℕ → Type 0) → Type 0
Prints text_of IsText = (number : ℤ) (text : List ℕ) → (text_of number ≡ Some text) ↔ IsText number text

-- the function returns the number that a text is read as, and nothing for any other text
abbrev pub Reads : (List ℕ → Option ℤ) → (ℤ → List ℕ → Type 0) → Type 0
Reads read IsRead = (number : ℤ) (text : List ℕ) → (read text ≡ Some number) ↔ IsRead number text

-- the functions of dates agree with their relation
abbrev pub DatesAgree : Type 0
DatesAgree = Prints date_text_of IsDateText × Reads date_read IsDateText

-- those of times of day, in each unit
abbrev pub TimesAgree : Type 0
TimesAgree = (unit : TimeUnit) → Prints (time_text_of unit) (IsTimeText unit) × Reads (time_read unit) (ReadsTime unit)

-- those of timestamps, in each unit
abbrev pub TimestampsAgree : Type 0
TimestampsAgree = (unit : TimeUnit) → Prints (timestamp_text_of unit) (IsTimestampText unit) × Reads (timestamp_read unit) (ReadsTimestamp unit)

-- of decimals, those of at most 16 bytes are read
abbrev pub DecimalsAgree : Type 0
DecimalsAgree =
    (scale : ℕ) → scale ≤ 38 → Prints (decimal_text_of scale) (IsDecimalText scale) × Reads (decimal_read scale) (λ number text. ReadsDecimal scale number text × IsDecimalNumber number)

-- of bytes of any length, the shortest of each number, at most 16, have its text, and are read from each text of the number
abbrev pub ShortestBytesAgree : Type 0
ShortestBytesAgree =
    (scale : ℕ) (bytes text : List ℕ)
    → ((form_bytes_text (ShortestBytes scale) bytes ≡ Some text) ↔ (AreShortest bytes × (length bytes ≤ 16) × IsDecimalText scale (signed_of bytes) text))
    × ((form_bytes_read (ShortestBytes scale) text ≡ Some bytes)
    ↔ (AreByteValues bytes × AreShortest bytes × (length bytes ≤ 16) × (scale ≤ 38) × ReadsDecimal scale (signed_of bytes) text))

-- of n bytes, from 1 to 16, those of each number have its text, and are read from each text of the number
abbrev pub FixedBytesAgree : Type 0
FixedBytesAgree =
    (scale n : ℕ) (bytes text : List ℕ) → 1 ≤ n → n ≤ 16
    → ((form_bytes_text (FixedBytes scale n) bytes ≡ Some text) ↔ ((length bytes ≡ n) × IsDecimalText scale (signed_of bytes) text))
    × ((form_bytes_read (FixedBytes scale n) text ≡ Some bytes)
    ↔ (AreByteValues bytes × (length bytes ≡ n) × (scale ≤ 38) × ReadsDecimal scale (signed_of bytes) text))
