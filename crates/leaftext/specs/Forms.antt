-- The leaves whose values have texts, and these texts: LogicalTypes.md, DATE, TIME, TIMESTAMP, DECIMAL.
use Rattle.std.specs.Prelude.{◌≡◌, ℕ, nat_le, ◌==◌, ◌&&◌, ℤ, pos, negsuc, Bool, true, false, List, length}
use Rattle.std.specs.Prelude.{Option, Some, None, option_map, option_and_then, if◌then◌else◌}
use Rattle.schema.specs.declared.value.Kind.{Kind}
use Rattle.schema.specs.declared.value.Kind.TheVariants.{Int32, Int64, ByteArray, FixedLenByteArray}
use Rattle.schema.specs.declared.annotation.ConvertedType.TheVariants as converted
use Rattle.schema.specs.Annotations.{Annotation, known, LeafType}
use Rattle.schema.specs.Fits.{is_within, are_bytes}
use Rattle.valuetext.specs.declared.unit.TimeUnit.TheVariants.{Millis, Micros}
use Rattle.leaftext.specs.declared.leaf_form.Form.{Form}
use Rattle.leaftext.specs.declared.leaf_form.Form.TheVariants.{Date, Time, Timestamp, Decimal, ShortestBytes, FixedBytes}
use Rattle.valuetext.specs.TwosComplement.{repeats_sign}
use Rattle.leaftext.specs.Texts.{date_text_of, time_text_of, timestamp_text_of, decimal_text_of}
use Rattle.leaftext.specs.Reads.{date_read, time_read, timestamp_read, decimal_read}
use Rattle.leaftext.specs.Bytes.{bytes_text_of, fixed_bytes, shortest_bytes}

-- a scale from 0 to 38; without a scale it is 0
abbrev pub scale_of : Option ℤ → Option ℕ
scale_of None = Some 0
scale_of (Some (pos scale)) = if nat_le scale 38 then Some scale else None
scale_of (Some (negsuc n)) = None

-- decimals in n bytes each, from 1 to 16
abbrev pub fixed_form : ℕ → Option ℤ → Option Form
fixed_form n scale = if nat_le 1 n && nat_le n 16 then option_map (λ s. FixedBytes s n) (scale_of scale) else None

-- the form of the texts of a physical type with an annotation and a scale; None if its values have no texts
abbrev pub form_over : Kind → Annotation → Option ℤ → Option Form
form_over Int32 (known converted.Date) scale = Some Date
form_over Int32 (known converted.TimeMillis) scale = Some (Time Millis)
form_over Int64 (known converted.TimeMicros) scale = Some (Time Micros)
form_over Int64 (known converted.TimestampMillis) scale = Some (Timestamp Millis)
form_over Int64 (known converted.TimestampMicros) scale = Some (Timestamp Micros)
form_over Int32 (known converted.Decimal) scale = option_map Decimal (scale_of scale)
form_over Int64 (known converted.Decimal) scale = option_map Decimal (scale_of scale)
form_over ByteArray (known converted.Decimal) scale = option_map ShortestBytes (scale_of scale)
form_over (FixedLenByteArray n) (known converted.Decimal) scale = fixed_form n scale
form_over _ _ scale = None

-- the form of the texts of a leaf's values
abbrev pub form_of : LeafType → Option Form
form_of t = form_over t.kind t.annotation t.scale

-- the same where texts are asked for
abbrev pub form_if : Bool → LeafType → Option Form
form_if true t = form_of t
form_if false t = None

-- the text of a number; None if it has none, and for a form of bytes
abbrev pub form_text : Form → ℤ → Option (List ℕ)
form_text Date number = date_text_of number
form_text (Time unit) number = time_text_of unit number
form_text (Timestamp unit) number = timestamp_text_of unit number
form_text (Decimal scale) number = decimal_text_of scale number
form_text (ShortestBytes scale) number = None
form_text (FixedBytes scale n) number = None

-- a number of at most 64 bits
abbrev pub in_64_bits : Option ℤ → Option ℤ
in_64_bits (Some number) = if is_within 9223372036854775808 number then Some number else None
in_64_bits None = None

-- the number that a text is read as, of decimals one of at most 64 bits; None if it is read as none, and for a form of bytes
abbrev pub form_read : Form → List ℕ → Option ℤ
form_read Date text = date_read text
form_read (Time unit) text = time_read unit text
form_read (Timestamp unit) text = timestamp_read unit text
form_read (Decimal scale) text = in_64_bits (decimal_read scale text)
form_read (ShortestBytes scale) text = None
form_read (FixedBytes scale n) text = None

-- the text of bytes; None if they have none, and for a form of numbers
abbrev pub form_bytes_text : Form → List ℕ → Option (List ℕ)
form_bytes_text (ShortestBytes scale) bytes = if repeats_sign bytes then None else bytes_text_of scale bytes
form_bytes_text (FixedBytes scale n) bytes = if length bytes == n then bytes_text_of scale bytes else None
form_bytes_text _ bytes = None

-- the bytes that a text is read as; None if it is read as none, and for a form of numbers
abbrev pub form_bytes_read : Form → List ℕ → Option (List ℕ)
form_bytes_read (ShortestBytes scale) text = option_and_then shortest_bytes (decimal_read scale text)
form_bytes_read (FixedBytes scale n) text = option_and_then (fixed_bytes n) (decimal_read scale text)
form_bytes_read _ text = None

-- a text is that of at most one number, and is read as that number
abbrev pub FormsReadBack : Type 0
FormsReadBack = (form : Form) (number : ℤ) (text : List ℕ) → is_within 9223372036854775808 number ≡ true → form_text form number ≡ Some text → form_read form text ≡ Some number

-- the text of bytes is that of no others, and is read as those bytes
abbrev pub FormBytesReadBack : Type 0
FormBytesReadBack = (form : Form) (bytes text : List ℕ) → are_bytes bytes ≡ true → form_bytes_text form bytes ≡ Some text → form_bytes_read form text ≡ Some bytes
