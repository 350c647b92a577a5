-- Decimals that are kept as bytes, and their texts.
use Rattle.std.proofs.Common.{◌≡◌, ℕ, zero, suc, ◌+◌, ◌-◌, ◌*◌, ◌^◌, ◌<◌, ◌≤◌, nat_lt, nat_le, ◌==◌, ◌&&◌, ℤ, pos, negsuc, ◌+ℤ◌, ◌-ℤ◌, ◌*ℤ◌, ◌≤ℤ◌, neg_ℤ, List, [], ◌∷◌, length, Bool, true, false, true≢false, ◌⊎◌, inl, inr, Option, option_map, Some, None, option_and_then, if◌then◌else◌, refl, sym, ◌∙◌, ap, subst, arith}
use Rattle.std.specs.Prelude.{unsigned_abs, IfSome, IsNone}
use Rattle.std.specs.Int.{int_div_euclid, int_rem_euclid}
use Rattle.std.proofs.Math.Nat.{pow-le-pow_right}
use Rattle.std.proofs.lemmas.Bool.Decides.{Decides-ltb, nat_tests}
use Rattle.std.proofs.lemmas.Bool.{leb-true, le-leb, and_parts as both_true, and_from as and_is}
use Rattle.lists.proofs.Numbers.{eq_from_same as is_length}
use Rattle.jiff_core.specs.Calendar.{IsBetween}
use Rattle.jiff_core.proofs.SignedLemmas.{signed_arith, int_rem_euclid-parts}
use Rattle.schema.specs.Fits.{is_within, are_bytes}
use Rattle.valuetext.specs.Decimals.{IsDecimalNumber, IsDecimalText, ReadsDecimal}
use Rattle.valuetext.specs.TwosComplement.{AreByteValues, AreShortest, signed_byte, signed_after, signed_of, repeats_sign}
use Rattle.valuetext.proofs.ByteNumbers.{one_before, too_few, step_within, signed_is, shortest_are_fewest}
use Rattle.valuetext.proofs.ByteNumbers as byte_numbers
use Rattle.valuetext.proofs.DecimalTexts as decimal_texts
use Rattle.leaftext.specs.declared.leaf_form.Form.{Form}
use Rattle.leaftext.specs.declared.leaf_form.Form.TheVariants.{Date, Time, Timestamp, Decimal, ShortestBytes, FixedBytes}
use Rattle.leaftext.specs.Texts.{decimal_text_of}
use Rattle.leaftext.specs.Reads.{decimal_read}
use Rattle.leaftext.specs.Bytes.{bytes_text_of, lowest_byte, bytes_before, fixed_bytes, unrepeated, shortest_bytes}
use Rattle.leaftext.specs.Forms.{form_bytes_text, form_bytes_read, FormBytesReadBack}
use Rattle.leaftext.specs.Laws.{ShortestBytesAgree, FixedBytesAgree}
use Rattle.leaftext.proofs.Tests.{passed, stopped, lets, found_at, missed_at, answers}
use Rattle.leaftext.proofs.Decimals as decimals

-- ---- the bytes of a number

natural_is : (z : ℤ) → pos 0 ≤ℤ z → pos (unsigned_abs z) ≡ z
natural_is (pos n) h = refl
natural_is (negsuc n) h = absurd (omega (arith, signed_arith, h))

-- a number is what is before its lowest byte, and that byte
rest_and_byte : (z : ℤ) → (z ≡ int_div_euclid z (pos 256) *ℤ pos 256 +ℤ pos (lowest_byte z)) × (lowest_byte z < 256)
rest_and_byte z =
    let parts = int_rem_euclid-parts z 256 (omega arith) in
    let natural = natural_is (int_rem_euclid z (pos 256)) (omega (arith, signed_arith, parts)) in
    (omega (arith, signed_arith, parts, natural), omega (arith, signed_arith, parts, natural))

within_is : (z : ℤ) → is_within 128 z ≡ true → IsBetween (neg_ℤ (pos 128)) (pos 127) z
within_is (pos n) e = let h = (Decides-ltb n 128).0 e in (omega (arith, signed_arith, h), omega (arith, signed_arith, h))
within_is (negsuc n) e = let h = (Decides-ltb n 128).0 e in (omega (arith, signed_arith, h), omega (arith, signed_arith, h))

is_within_128 : (z : ℤ) → IsBetween (neg_ℤ (pos 128)) (pos 127) z → is_within 128 z ≡ true
is_within_128 (pos n) h = (Decides-ltb n 128).1 (omega (arith, signed_arith, h.1))
is_within_128 (negsuc n) h = (Decides-ltb n 128).1 (omega (arith, signed_arith, h.0))

made_is : (n : ℕ) (z : ℤ) (after out : List ℕ) → AreByteValues after → bytes_before n z after ≡ Some out → (signed_of out ≡ signed_after z after) × AreByteValues out × (length out ≡ suc n + length after)
unfolding signed_after AreByteValues
made_is zero z after out all e =
    let test = passed (is_within 128 z) (lowest_byte z ∷ after) out e in
    let parts = rest_and_byte z in (
      one_before z (int_div_euclid z (pos 256)) (signed_after z after) (lowest_byte z) after out (sym test.1) (within_is z test.0) parts.0 parts.1 refl,
      subst AreByteValues test.1 (parts.1, all),
      omega (arith, ap length (sym test.1)),
    )
made_is (suc n) z after out all e =
    let parts = rest_and_byte z in
    let rest = made_is n (int_div_euclid z (pos 256)) (lowest_byte z ∷ after) out (parts.1, all) e in
    (rest.0 ∙ ap (λ x. signed_after x after) (sym parts.0), rest.1, omega (arith, rest.2))

made_some : (n : ℕ) (z : ℤ) (after ys : List ℕ) → AreByteValues after → AreByteValues ys → length ys ≡ suc n + length after → signed_of ys ≡ signed_after z after → bytes_before n z after ≡ None → ⊥
unfolding signed_after AreByteValues
made_some zero z after ys all bytes long same e =
    let few = too_few z (signed_after z after) after ys all bytes (omega (arith, long)) refl same in
    stopped (is_within 128 z) (lowest_byte z ∷ after) e (is_within_128 z few)
made_some (suc n) z after ys all bytes long same e =
    let parts = rest_and_byte z in
    made_some n (int_div_euclid z (pos 256)) (lowest_byte z ∷ after) ys (parts.1, all) bytes (omega (arith, long)) (same ∙ ap (λ x. signed_after x after) parts.0) e

none_are : AreByteValues []
unfolding AreByteValues
none_are = tt

after_none : (z : ℤ) → signed_after z [] ≡ z
unfolding signed_after
after_none z = refl

-- ---- bytes of one length

abbrev AreFixed : ℕ → ℤ → List ℕ → Type 0
AreFixed n z bytes = (signed_of bytes ≡ z) × AreByteValues bytes × (length bytes ≡ n)

if_none : {A : Type 0} (b : Bool) (o : Option A) → b ≡ true → (if b then o else None) ≡ None → o ≡ None
if_none true o h e = e
if_none false o h e = absurd (cc)

fixed_is : (n : ℕ) (z : ℤ) (out : List ℕ) → fixed_bytes n z ≡ Some out → (1 ≤ n) × (n ≤ 16) × AreFixed n z out
fixed_is zero z out e = absurd (cc)
fixed_is (suc n) z out e =
    let test = decimals.if_passed (nat_le (suc n) 16) (bytes_before n z []) out e in
    let made = made_is n z [] out none_are test.1 in
    (omega arith, leb-true (suc n) 16 test.0, (made.0 ∙ after_none z, made.1, omega (arith, made.2)))

some_fixed : (n : ℕ) (z : ℤ) (ys : List ℕ) → 1 ≤ n → n ≤ 16 → AreFixed n z ys → fixed_bytes n z ≡ None → ⊥
some_fixed zero z ys low high h e = omega (arith, low)
some_fixed (suc n) z ys low high h e =
    made_some n z [] ys none_are h.1 (omega (arith, h.2)) (h.0 ∙ sym (after_none z)) (if_none (nat_le (suc n) 16) (bytes_before n z []) (le-leb (suc n) 16 high) e)

one_fixed : (n : ℕ) (z : ℤ) (a b : List ℕ) → AreFixed n z a → AreFixed n z b → a ≡ b
one_fixed n z a b p q = byte_numbers.bytes_read_back a b p.1 q.1 (p.2 ∙ sym q.2) (p.0 ∙ sym q.0)

pub is_fixed : (n : ℕ) (z : ℤ) (ys : List ℕ) → 1 ≤ n → n ≤ 16 → AreFixed n z ys → fixed_bytes n z ≡ Some ys
is_fixed n z ys low high h = answers (AreFixed n z) (fixed_bytes n z) ys (λ x e. (fixed_is n z x e).2) (some_fixed n z ys low high h) (λ x k. one_fixed n z x ys k h)

-- what the program found, of bytes of one length
pub was_fixed : {R : Type 0} (items : R → List ℕ) (n : ℕ) (z : ℤ) (r : Option R) → 1 ≤ n → n ≤ 16 → IfSome r (λ b. signed_of (items b) ≡ z) → IfSome r (λ b. length (items b) ≡ n) → IfSome r (λ b. AreByteValues (items b))
    → (IsNone r → (bytes : List ℕ) → AreByteValues bytes → length bytes ≡ n → signed_of bytes ≡ z → ⊥) → option_map items r ≡ fixed_bytes n z
was_fixed items n z (Some b) low high number long all none = sym (is_fixed n z (items b) low high (number, all, long))
was_fixed items n z None low high number long all none = go (fixed_bytes n z) refl
  where
    go : (o : Option (List ℕ)) → fixed_bytes n z ≡ o → None ≡ fixed_bytes n z
    go None e = sym e
    go (Some out) e = let h = (fixed_is n z out e).2 in absurd (none refl out h.1 h.2 h.0)

-- ---- the shortest bytes

abbrev pub AreFewest : ℤ → List ℕ → Type 0
AreFewest z bytes = (signed_of bytes ≡ z) × AreByteValues bytes × AreShortest bytes × (length bytes ≤ 16)

unrepeated_is : (o : Option (List ℕ)) (out : List ℕ) → option_and_then unrepeated o ≡ Some out → (o ≡ Some out) × (repeats_sign out ≡ false)
unrepeated_is None out e = absurd (cc)
unrepeated_is (Some bytes) out e = go (repeats_sign bytes) refl e
  where
    go : (b : Bool) → repeats_sign bytes ≡ b → (if b then None else Some bytes) ≡ Some out → (Some bytes ≡ Some out) × (repeats_sign out ≡ false)
    go true h f = absurd (cc)
    go false h f = let same : bytes ≡ out = cc in (f, ap repeats_sign (sym same) ∙ h)

is_unrepeated : (bytes : List ℕ) → repeats_sign bytes ≡ false → unrepeated bytes ≡ Some bytes
is_unrepeated bytes h = rw h refl

shortest_is : (z : ℤ) (out : List ℕ) → shortest_bytes z ≡ Some out → AreFewest z out
unfolding shortest_bytes
shortest_is z out e =
    let n = found_at 16 _ out e in
    let found = unrepeated_is (fixed_bytes (suc n.0) z) out n.2 in
    let fixed = fixed_is (suc n.0) z out found.0 in
    (fixed.2.0, fixed.2.1, (omega (arith, fixed.2.2), found.1), omega (arith, fixed.2.2, fixed.1))

some_shortest : (z : ℤ) (ys : List ℕ) → AreFewest z ys → shortest_bytes z ≡ None → ⊥
unfolding shortest_bytes
some_shortest z ys h e =
    let i = length ys - 1 in
    let one = h.2.0 in
    let none = missed_at 16 _ e i (omega (arith, h.3, one)) in
    let fixed = is_fixed (suc i) z ys (omega arith) (omega (arith, h.3, one)) (h.0, h.1, omega (arith, one)) in
    let some : option_and_then unrepeated (fixed_bytes (suc i) z) ≡ Some ys = ap (option_and_then unrepeated) fixed ∙ is_unrepeated ys h.2.1 in
    absurd (cc)

one_shortest : (z : ℤ) (a b : List ℕ) → AreFewest z a → AreFewest z b → a ≡ b
one_shortest z a b p q =
    let ab = shortest_are_fewest a b p.1 q.1 p.2 q.2.0 (p.0 ∙ sym q.0) in
    let ba = shortest_are_fewest b a q.1 p.1 q.2 p.2.0 (q.0 ∙ sym p.0) in
    ab.1 ba.0

pub is_shortest : (z : ℤ) (ys : List ℕ) → AreFewest z ys → shortest_bytes z ≡ Some ys
is_shortest z ys h = answers (AreFewest z) (shortest_bytes z) ys (shortest_is z) (some_shortest z ys h) (λ x k. one_shortest z x ys k h)

-- ---- the number of bytes

after_within : (n : ℤ) (i : ℕ) (xs : List ℕ) → AreByteValues xs → IsBetween (pos 0 -ℤ pos (128 * 256 ^ i)) (pos (128 * 256 ^ i) -ℤ pos 1) n
    → IsBetween (pos 0 -ℤ pos (128 * 256 ^ (i + length xs))) (pos (128 * 256 ^ (i + length xs)) -ℤ pos 1) (signed_after n xs)
unfolding signed_after AreByteValues
after_within n i [] all h = subst (λ j. IsBetween (pos 0 -ℤ pos (128 * 256 ^ j)) (pos (128 * 256 ^ j) -ℤ pos 1) n) (omega arith) h
after_within n i (x ∷ xs) all h =
    let rest = after_within (n *ℤ pos 256 +ℤ pos x) (i + 1) xs all.1 (step_within n x i all.0 h) in
    subst (λ j. IsBetween (pos 0 -ℤ pos (128 * 256 ^ j)) (pos (128 * 256 ^ j) -ℤ pos 1) (signed_after (n *ℤ pos 256 +ℤ pos x) xs)) (omega arith) rest

byte_within : (b : ℕ) → b < 256 → IsBetween (pos 0 -ℤ pos 128) (pos 128 -ℤ pos 1) (signed_byte b)
byte_within b h =
    elim (signed_is b h) [
      | inl a ↦ (omega (arith, signed_arith, a), omega (arith, signed_arith, a))
      | inr a ↦ (omega (arith, signed_arith, a, h), omega (arith, signed_arith, a, h))
    ]

-- up to 16 bytes are a number of at most 16 bytes
pub number_within : (bytes : List ℕ) → AreByteValues bytes → length bytes ≤ 16 → IsDecimalNumber (signed_of bytes)
unfolding AreByteValues
number_within [] all few = (omega (arith, signed_arith), omega (arith, signed_arith))
number_within (b ∷ bytes) all few =
    let inside = after_within (signed_byte b) 0 bytes all.1 (byte_within b all.0) in
    let short : 0 + length bytes ≤ 15 = omega (arith, few) in
    let most : 256 ^ (0 + length bytes) ≤ 256 ^ 15 = pow-le-pow_right {n = 256} (omega arith) short in
    (omega (arith, signed_arith, inside.0, most), omega (arith, signed_arith, inside.1, most))

-- ---- texts

few_text : (scale : ℕ) (bytes text : List ℕ) → bytes_text_of scale bytes ≡ Some text → (1 ≤ length bytes) × (length bytes ≤ 16) × IsDecimalText scale (signed_of bytes) text
few_text scale bytes text e =
    let test = decimals.if_passed (nat_le 1 (length bytes) && nat_le (length bytes) 16) (decimal_text_of scale (signed_of bytes)) text e in
    let parts = both_true (nat_le 1 (length bytes)) (nat_le (length bytes) 16) test.0 in
    (leb-true 1 (length bytes) parts.0, leb-true (length bytes) 16 parts.1, decimals.text_is scale (signed_of bytes) text test.1)

if_false : {A : Type 0} (b : Bool) (o : Option A) → b ≡ false → (if b then None else o) ≡ o
if_false true o h = absurd (cc)
if_false false o h = refl

unless_some : {A : Type 0} (b : Bool) (o : Option A) (a : A) → (if b then None else o) ≡ Some a → (b ≡ false) × (o ≡ Some a)
unless_some true o a e = absurd (cc)
unless_some false o a e = (refl, e)

-- the text of the number of a few bytes
pub few_are : (scale : ℕ) (bytes : List ℕ) → 1 ≤ length bytes → length bytes ≤ 16 → bytes_text_of scale bytes ≡ decimal_text_of scale (signed_of bytes)
few_are scale bytes low high =
    decimals.if_lets (nat_le 1 (length bytes) && nat_le (length bytes) 16) (decimal_text_of scale (signed_of bytes)) (and_is (nat_le 1 (length bytes)) (nat_le (length bytes) 16) (le-leb 1 (length bytes) low) (le-leb (length bytes) 16 high))

text_few : (scale : ℕ) (bytes text : List ℕ) → 1 ≤ length bytes → length bytes ≤ 16 → IsDecimalText scale (signed_of bytes) text → bytes_text_of scale bytes ≡ Some text
text_few scale bytes text low high h = few_are scale bytes low high ∙ decimals.is_text scale (signed_of bytes) text h

-- no bytes, and more than 16, have no text
pub no_text : (scale : ℕ) (bytes : List ℕ) → (length bytes ≡ 0) ⊎ (16 < length bytes) → None ≡ bytes_text_of scale bytes
no_text scale bytes h = go (nat_le 1 (length bytes) && nat_le (length bytes) 16) refl
  where
    go : (b : Bool) → (nat_le 1 (length bytes) && nat_le (length bytes) 16) ≡ b → None ≡ (if b then decimal_text_of scale (signed_of bytes) else None)
    go false e = refl
    go true e =
        let parts = both_true (nat_le 1 (length bytes)) (nat_le (length bytes) 16) e in
        let low = leb-true 1 (length bytes) parts.0 in
        let high = leb-true (length bytes) 16 parts.1 in
        absurd (elim h [ inl none ↦ omega (arith, none, low) | inr many ↦ omega (arith, many, high) ])

then_some : (f : ℤ → Option (List ℕ)) (o : Option ℤ) (b : List ℕ) → option_and_then f o ≡ Some b → (a : ℤ) × (o ≡ Some a) × (f a ≡ Some b)
then_some f None b e = absurd (cc)
then_some f (Some a) b e = (a, refl, e)

then_is : {A B : Type 0} (f : A → Option B) (o : Option A) (a : A) (b : B) → o ≡ Some a → f a ≡ Some b → option_and_then f o ≡ Some b
then_is f o a b e h = ap (option_and_then f) e ∙ h

scale_in : (scale : ℕ) (number : ℤ) (text : List ℕ) → decimal_read scale text ≡ Some number → scale ≤ 38
scale_in scale number text e = leb-true scale 38 (both_true (nat_le scale 38) _ (decimals.if_passed _ _ number e).0).0

pub shortest_bytes_agree : ShortestBytesAgree
shortest_bytes_agree scale bytes text = ((printed, prints), (was_read, reads))
  where
    printed : form_bytes_text (ShortestBytes scale) bytes ≡ Some text → AreShortest bytes × (length bytes ≤ 16) × IsDecimalText scale (signed_of bytes) text
    printed e =
        let test = unless_some (repeats_sign bytes) (bytes_text_of scale bytes) text e in
        let few = few_text scale bytes text test.1 in
        ((few.0, test.0), few.1, few.2)

    prints : AreShortest bytes × (length bytes ≤ 16) × IsDecimalText scale (signed_of bytes) text → form_bytes_text (ShortestBytes scale) bytes ≡ Some text
    prints h = if_false (repeats_sign bytes) (bytes_text_of scale bytes) h.0.1 ∙ text_few scale bytes text h.0.0 h.1 h.2

    was_read : form_bytes_read (ShortestBytes scale) text ≡ Some bytes → AreByteValues bytes × AreShortest bytes × (length bytes ≤ 16) × (scale ≤ 38) × ReadsDecimal scale (signed_of bytes) text
    was_read e =
        let number = then_some shortest_bytes (decimal_read scale text) bytes e in
        let found = shortest_is number.0 bytes number.2 in
        let read = decimals.read_is scale number.0 text number.1 in
        (found.1, found.2, found.3, scale_in scale number.0 text number.1, subst (λ z. ReadsDecimal scale z text) (sym found.0) read.0)

    reads : AreByteValues bytes × AreShortest bytes × (length bytes ≤ 16) × (scale ≤ 38) × ReadsDecimal scale (signed_of bytes) text → form_bytes_read (ShortestBytes scale) text ≡ Some bytes
    reads h =
        then_is shortest_bytes (decimal_read scale text) (signed_of bytes) bytes (decimals.is_read scale (signed_of bytes) text h.3 h.4 (number_within bytes h.0 h.2)) (is_shortest (signed_of bytes) bytes (refl, h.0, h.1, h.2))

length_is : (n m : ℕ) → (n == m) ≡ true → n ≡ m
length_is n m e = grind (arith, nat_tests)

pub fixed_bytes_agree : FixedBytesAgree
fixed_bytes_agree scale n bytes text low high = ((printed, prints), (was_read, reads))
  where
    printed : form_bytes_text (FixedBytes scale n) bytes ≡ Some text → (length bytes ≡ n) × IsDecimalText scale (signed_of bytes) text
    printed e =
        let test = decimals.if_passed (length bytes == n) (bytes_text_of scale bytes) text e in
        (length_is (length bytes) n test.0, (few_text scale bytes text test.1).2)

    prints : (length bytes ≡ n) × IsDecimalText scale (signed_of bytes) text → form_bytes_text (FixedBytes scale n) bytes ≡ Some text
    prints h =
        decimals.if_lets (length bytes == n) (bytes_text_of scale bytes) (is_length (length bytes) n h.0) ∙ text_few scale bytes text (omega (arith, h.0, low)) (omega (arith, h.0, high)) h.1

    was_read : form_bytes_read (FixedBytes scale n) text ≡ Some bytes → AreByteValues bytes × (length bytes ≡ n) × (scale ≤ 38) × ReadsDecimal scale (signed_of bytes) text
    was_read e =
        let number = then_some (fixed_bytes n) (decimal_read scale text) bytes e in
        let found = (fixed_is n number.0 bytes number.2).2 in
        let read = decimals.read_is scale number.0 text number.1 in
        (found.1, found.2, scale_in scale number.0 text number.1, subst (λ z. ReadsDecimal scale z text) (sym found.0) read.0)

    reads : AreByteValues bytes × (length bytes ≡ n) × (scale ≤ 38) × ReadsDecimal scale (signed_of bytes) text → form_bytes_read (FixedBytes scale n) text ≡ Some bytes
    reads h =
        then_is (fixed_bytes n) (decimal_read scale text) (signed_of bytes) bytes (decimals.is_read scale (signed_of bytes) text h.2 h.3 (number_within bytes h.0 (omega (arith, h.1, high)))) (is_fixed n (signed_of bytes) bytes low high (refl, h.0, h.1))

byte_values : (bytes : List ℕ) → are_bytes bytes ≡ true → AreByteValues bytes
unfolding AreByteValues
byte_values [] h = tt
byte_values (b ∷ bytes) h = let p = both_true (nat_lt b 256) (are_bytes bytes) h in ((Decides-ltb b 256).0 p.0, byte_values bytes p.1)

pub bytes_read_back : FormBytesReadBack
bytes_read_back Date bytes text all e = absurd (cc)
bytes_read_back (Time unit) bytes text all e = absurd (cc)
bytes_read_back (Timestamp unit) bytes text all e = absurd (cc)
bytes_read_back (Decimal scale) bytes text all e = absurd (cc)
bytes_read_back (ShortestBytes scale) bytes text all e =
    let agree = shortest_bytes_agree scale bytes text in
    let h = agree.0.0 e in
    agree.1.1 (byte_values bytes all, h.0, h.1, h.2.0, decimal_texts.read_back scale (signed_of bytes) text h.2)
bytes_read_back (FixedBytes scale n) bytes text all e =
    let test = decimals.if_passed (length bytes == n) (bytes_text_of scale bytes) text e in
    let few = few_text scale bytes text test.1 in
    let long = length_is (length bytes) n test.0 in
    let agree = fixed_bytes_agree scale n bytes text (omega (arith, long, few.0)) (omega (arith, long, few.1)) in
    let h = agree.0.0 e in
    agree.1.1 (byte_values bytes all, h.0, h.1.0, decimal_texts.read_back scale (signed_of bytes) text h.1)
