-- The texts of numbers, by their forms.
use Rattle.std.proofs.Common.{◌≡◌, ℕ, ℤ, List, true, Option, Some, None, refl, sym, ◌∙◌, ap}
use Rattle.std.specs.Prelude.{IfSome, IsNone}
use Rattle.schema.specs.Fits.{is_within}
use Rattle.valuetext.proofs.TimeTexts as time_texts
use Rattle.valuetext.proofs.TimestampTexts as timestamp_texts
use Rattle.valuetext.proofs.DecimalTexts as decimal_texts
use Rattle.leaftext.specs.declared.leaf_form.Form.TheVariants.{Date, Time, Timestamp, Decimal, ShortestBytes, FixedBytes}
use Rattle.leaftext.specs.Forms.{in_64_bits, FormsReadBack}
use Rattle.leaftext.specs.Reads.{decimal_read}
use Rattle.leaftext.specs.Laws.{Prints, Reads}
use Rattle.leaftext.proofs.Dates as dates
use Rattle.leaftext.proofs.Times as times
use Rattle.leaftext.proofs.Timestamps as timestamps
use Rattle.leaftext.proofs.Decimals as decimals

within : (o : Option ℤ) (z : ℤ) → o ≡ Some z → is_within 9223372036854775808 z ≡ true → in_64_bits o ≡ Some z
within o z e h = ap in_64_bits e ∙ rw h refl

pub forms_read_back : FormsReadBack
forms_read_back Date number text small e = dates.is_read number text (dates.text_is number text e)
forms_read_back (Time unit) number text small e = times.is_read unit number text ((time_texts.times_read_back unit).1 number text (times.text_is unit number text e))
forms_read_back (Timestamp unit) number text small e = timestamps.is_read unit number text (timestamp_texts.read_back unit number text (timestamps.text_is unit number text e))
forms_read_back (Decimal scale) number text small e =
    let is = decimals.text_is scale number text e in
    within (decimal_read scale text) number (decimals.is_read scale number text is.0 (decimal_texts.read_back scale number text is) is.1) small
forms_read_back (ShortestBytes scale) number text small e = absurd (cc)
forms_read_back (FixedBytes scale n) number text small e = absurd (cc)

-- a number that has no text
pub no_text : (text_of : ℤ → Option (List ℕ)) (IsText : ℤ → List ℕ → Type 0) → Prints text_of IsText → (number : ℤ) → ((text : List ℕ) → IsText number text → ⊥) → None ≡ text_of number
no_text text_of IsText agree number none = go (text_of number) refl
  where
    go : (o : Option (List ℕ)) → text_of number ≡ o → None ≡ text_of number
    go None e = sym e
    go (Some text) e = absurd (none text ((agree number text).0 e))

-- a number that has this text
pub one_text : (text_of : ℤ → Option (List ℕ)) (IsText : ℤ → List ℕ → Type 0) → Prints text_of IsText → (number : ℤ) (text bytes : List ℕ) → bytes ≡ text → IsText number text → Some bytes ≡ text_of number
one_text text_of IsText agree number text bytes same h = ap Some same ∙ sym ((agree number text).1 h)

-- a text that is read as this number
pub is_read : (read : List ℕ → Option ℤ) (IsRead : ℤ → List ℕ → Type 0) → Reads read IsRead → (text : List ℕ) (number z : ℤ) → z ≡ number → IsRead number text → Some z ≡ read text
is_read read IsRead agree text number z same h = ap Some same ∙ sym ((agree number text).1 h)

-- a text that is read as no number
pub unread : (read : List ℕ → Option ℤ) (IsRead : ℤ → List ℕ → Type 0) → Reads read IsRead → (text : List ℕ) → ((number : ℤ) → IsRead number text → ⊥) → None ≡ read text
unread read IsRead agree text none = go (read text) refl
  where
    go : (o : Option ℤ) → read text ≡ o → None ≡ read text
    go None e = sym e
    go (Some number) e = absurd (none number ((agree number text).0 e))

-- what was read of a text, if anything was
pub was_read : (read : List ℕ → Option ℤ) (IsRead : ℤ → List ℕ → Type 0) → Reads read IsRead → (text : List ℕ) (r : Option ℤ) → IfSome r (λ number. IsRead number text) → (IsNone r → (number : ℤ) → IsRead number text → ⊥) → r ≡ read text
was_read read IsRead agree text (Some number) some none = is_read read IsRead agree text number number refl some
was_read read IsRead agree text None some none = unread read IsRead agree text (none refl)
