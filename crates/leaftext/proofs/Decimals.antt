-- Decimal numbers and their texts.
use Rattle.std.proofs.Common.{◌≡◌, ℕ, ◌-◌, ◌^◌, ◌≤◌, nat_le, ℤ, pos, negsuc, ◌*ℤ◌, List, Bool, true, false, ◌&&◌, Option, Some, None, if◌then◌else◌, refl, sym, ◌∙◌, ap, subst, arith}
use Rattle.std.specs.Prelude.{bytes_eq}
use Rattle.std.proofs.lemmas.Bool.Decides.{Decides-ltb}
use Rattle.std.proofs.lemmas.Bool.{leb-true, le-leb, and_parts as both_true, and_from as and_is}
use Rattle.jiff_core.proofs.SignedLemmas.{signed_arith}
use Rattle.valuetext.specs.Decimals.{decimal_text, IsDecimalNumber, IsDecimalText, ReadsDecimal}
use Rattle.valuetext.specs.inner.Scan.{places_in, number_written}
use Rattle.valuetext.proofs.DecimalTexts.{shown_is}
use Rattle.leaftext.specs.Texts.{is_decimal_number, decimal_text_of}
use Rattle.leaftext.specs.Reads.{scaled, decimal_read}
use Rattle.leaftext.specs.Laws.{DecimalsAgree}
use Rattle.leaftext.proofs.Tests.{passed, lets, same_bytes, bytes_same}

pub number_is : (z : ℤ) → is_decimal_number z ≡ true → IsDecimalNumber z
number_is (pos n) e = let h = (Decides-ltb n (2 ^ 127)).0 e in (omega (arith, signed_arith, h), omega (arith, signed_arith, h))
number_is (negsuc n) e = let h = (Decides-ltb n (2 ^ 127)).0 e in (omega (arith, signed_arith, h), omega (arith, signed_arith, h))

pub is_number : (z : ℤ) → IsDecimalNumber z → is_decimal_number z ≡ true
is_number (pos n) h = (Decides-ltb n (2 ^ 127)).1 (omega (arith, signed_arith, h.1))
is_number (negsuc n) h = (Decides-ltb n (2 ^ 127)).1 (omega (arith, signed_arith, h.0))

pub text_is : (scale : ℕ) (number : ℤ) (text : List ℕ) → decimal_text_of scale number ≡ Some text → IsDecimalText scale number text
text_is scale number text e =
    let test = passed (nat_le scale 38 && is_decimal_number number) (decimal_text scale number) text e in
    let parts = both_true (nat_le scale 38) (is_decimal_number number) test.0 in
    (leb-true scale 38 parts.0, number_is number parts.1, sym test.1)

pub is_text : (scale : ℕ) (number : ℤ) (text : List ℕ) → IsDecimalText scale number text → decimal_text_of scale number ≡ Some text
is_text scale number text h =
    lets (nat_le scale 38 && is_decimal_number number) (decimal_text scale number) (and_is (nat_le scale 38) (is_decimal_number number) (le-leb scale 38 h.0) (is_number number h.1)) ∙ ap Some (sym h.2)

-- ---- reading

pub if_passed : {A : Type 0} (b : Bool) (o : Option A) (a : A) → (if b then o else None) ≡ Some a → (b ≡ true) × (o ≡ Some a)
if_passed true o a e = (refl, e)
if_passed false o a e = absurd (cc)

pub if_lets : {A : Type 0} (b : Bool) (o : Option A) → b ≡ true → (if b then o else None) ≡ o
if_lets true o e = refl
if_lets false o e = absurd (cc)

pub read_is : (scale : ℕ) (number : ℤ) (text : List ℕ) → decimal_read scale text ≡ Some number → ReadsDecimal scale number text × IsDecimalNumber number
read_is scale number text e =
    let places = places_in text in
    let shown = number_written text in
    let same = bytes_eq text (decimal_text places shown) in
    let test = if_passed (nat_le scale 38 && (nat_le places scale && (is_decimal_number shown && same))) (scaled (shown *ℤ pos (10 ^ (scale - places)))) number e in
    let a = both_true (nat_le scale 38) (nat_le places scale && (is_decimal_number shown && same)) test.0 in
    let b = both_true (nat_le places scale) (is_decimal_number shown && same) a.1 in
    let c = both_true (is_decimal_number shown) same b.1 in
    let s = passed (is_decimal_number (shown *ℤ pos (10 ^ (scale - places)))) (shown *ℤ pos (10 ^ (scale - places))) number test.1 in
    let few = leb-true places scale b.0 in
    let most = leb-true scale 38 a.0 in (
      (places, shown, few, sym s.1, (omega (arith, few, most), number_is shown c.0, same_bytes text (decimal_text places shown) c.1)),
      subst IsDecimalNumber s.1 (number_is (shown *ℤ pos (10 ^ (scale - places))) s.0),
    )

pub is_read : (scale : ℕ) (number : ℤ) (text : List ℕ) → scale ≤ 38 → ReadsDecimal scale number text → IsDecimalNumber number → decimal_read scale text ≡ Some number
is_read scale number text most h small =
    let known = shown_is h.0 h.1 text h.4 in
    let places : places_in text ≡ h.0 = known.0 in
    let shown : number_written text ≡ h.1 = known.1 in
    let few : nat_le (places_in text) scale ≡ true = le-leb (places_in text) scale (subst (λ p. p ≤ scale) (sym places) h.2) in
    let number_fits : is_decimal_number (number_written text) ≡ true = is_number (number_written text) (subst IsDecimalNumber (sym shown) h.4.1) in
    let printed : bytes_eq text (decimal_text (places_in text) (number_written text)) ≡ true =
    bytes_same text (decimal_text (places_in text) (number_written text)) (h.4.2 ∙ ap (λ p. decimal_text p h.1) (sym places) ∙ ap (decimal_text (places_in text)) (sym shown)) in
    let all = and_is (nat_le scale 38) _ (le-leb scale 38 most) (and_is (nat_le (places_in text) scale) _ few (and_is (is_decimal_number (number_written text)) _ number_fits printed)) in
    let is : number_written text *ℤ pos (10 ^ (scale - places_in text)) ≡ number = ap (λ p. number_written text *ℤ pos (10 ^ (scale - p))) places ∙ ap (λ z. z *ℤ pos (10 ^ (scale - h.0))) shown ∙ sym h.3 in
    if_lets _ (scaled (number_written text *ℤ pos (10 ^ (scale - places_in text)))) all ∙ ap scaled is ∙ lets (is_decimal_number number) number (is_number number small)

pub decimals_agree : DecimalsAgree
decimals_agree scale most = (λ number text. (text_is scale number text, is_text scale number text), λ number text. (read_is scale number text, λ h. is_read scale number text most h.0 h.1))
