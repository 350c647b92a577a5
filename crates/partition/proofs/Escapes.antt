-- What the kit's percent-encoding writes is the escaped form.
use Rattle.std.proofs.Common.{◌≡◌, ℕ, zero, suc, ◌+◌, ◌<◌, ◌≤◌, length, get_or, drop, length-append, add-one, ◌-◌, ◌^◌, ℤ, pos, negsuc, Option, Some, None, Bool, true, false, not, List, [], ◌∷◌, ◌++◌, refl, ap, ◌∙◌, sym, arith, ◌⊎◌, inl, inr}
use Rattle.std.specs.Prelude.{cond, if◌then◌else◌}
use Rattle.std.specs.List.{flat_map}
use Rattle.std.specs.Char.{is_ascii}
use Rattle.std.proofs.lemmas.Bool.{agree_below, agree_below_at, cases_lt}
use Rattle.std.proofs.lemmas.Bool.Decides.{nat_tests}
use Rattle.std.proofs.lemmas.List.Concat.{flat_map-cons}
use Rattle.percent_encoding.specs.AsciiSet.{contains, should_percent_encode}
use Rattle.percent_encoding.specs.Percent.{percent_encode, encode_byte, percent_encode_byte, IsKept}
use Rattle.partition.specs.declared.escape.TheConstants.{ESCAPED}
use Rattle.partition.specs.Folders.{is_plain, escaped}
use Rattle.partition.specs.inner.Checks.{escaped_size, IsRoomAfter}
use Rattle.std.specs.Prelude.{SomeIff}
use Rattle.std.specs.List.{AllByRecursion}
use Rattle.std.specs.Int.{IsInRange}
use Rattle.std.specs.Fmt.{decimal, signed_decimal}
use Rattle.std.specs.Str.Parse.{AllDigits}
use Rattle.std.proofs.lemmas.Fmt.{decimal_is_IsNumeral}
use Rattle.std.proofs.lemmas.Str.Parse.{digit_from_value}
use Rattle.std.proofs.lemmas.List.Elements.{All-from_recursion}
use Rattle.percent_encoding.proofs.PercentLemmas.{percent_encode_unchanged}
use lib.Signed.{mag}

pub set_is : agree_below (contains ESCAPED) (λ b. not (is_plain b)) 128 ≡ true
set_is = refl

escape_plain : (b : ℕ) → b < 128 → should_percent_encode ESCAPED b ≡ not (is_plain b)
unfolding should_percent_encode
escape_plain b h =
    let ascii : is_ascii b ≡ true = grind (arith, nat_tests) in
    rw ascii (agree_below_at (contains ESCAPED) (λ b. not (is_plain b)) 128 b set_is h)

escape_other : (b : ℕ) → 128 ≤ b → should_percent_encode ESCAPED b ≡ not (is_plain b)
unfolding should_percent_encode
escape_other b h =
    let ascii : is_ascii b ≡ false = grind (arith, nat_tests) in
    let plain : is_plain b ≡ false = grind (arith, nat_tests) in
    rw (ascii, plain) refl

pub escape_is : (b : ℕ) → should_percent_encode ESCAPED b ≡ not (is_plain b)
escape_is b = elim (cases_lt b 128) [ inl h ↦ escape_plain b h | inr h ↦ escape_other b h ]

turned : (b : Bool) (x y : List ℕ) → (if not b then x else y) ≡ (if b then y else x)
turned true x y = refl
turned false x y = refl

abbrev one_escaped : ℕ → List ℕ
one_escaped b = if is_plain b then b ∷ [] else percent_encode_byte b

one_is : (b : ℕ) → encode_byte ESCAPED b ≡ one_escaped b
one_is b = ap (λ (t : Bool). if t then percent_encode_byte b else b ∷ []) (escape_is b) ∙ turned (is_plain b) (percent_encode_byte b) (b ∷ [])

all_is : (text : List ℕ) → flat_map (encode_byte ESCAPED) text ≡ flat_map one_escaped text
all_is [] = refl
all_is (b ∷ text) = flat_map-cons (encode_byte ESCAPED) b text ∙ (λ i. one_is b i ++ all_is text i) ∙ sym (flat_map-cons one_escaped b text)

pub escaped_is : (text : List ℕ) → percent_encode ESCAPED text ≡ escaped text
unfolding percent_encode escaped
escaped_is text = all_is text

-- ---- how long an escaped text is

pub escaped-nil : escaped [] ≡ []
unfolding escaped
escaped-nil = refl

escaped-cons : (b : ℕ) (text : List ℕ) → escaped (b ∷ text) ≡ one_escaped b ++ escaped text
unfolding escaped
escaped-cons b text = flat_map-cons one_escaped b text

length_one : (b : ℕ) → length (one_escaped b) ≡ escaped_size b
unfolding percent_encode_byte
length_one b = by (is_plain b)
  where
    by : (t : Bool) → length (cond t (b ∷ []) (percent_encode_byte b)) ≡ cond t 1 3
    by true = refl
    by false = refl

pub length_escaped : (b : ℕ) (text : List ℕ) → length (escaped (b ∷ text)) ≡ escaped_size b + length (escaped text)
length_escaped b text = ap length (escaped-cons b text) ∙ length-append (one_escaped b) (escaped text) ∙ ap (λ n. n + length (escaped text)) (length_one b)

from_place : (text : List ℕ) (i : ℕ) → i < length text → length (escaped (drop i text)) ≡ escaped_size (get_or text i 0) + length (escaped (drop (suc i) text))
from_place [] i h = absurd (omega (arith, h))
from_place (b ∷ text) zero h = length_escaped b text
from_place (b ∷ text) (suc i) h = from_place text i (omega (arith, h))

-- so it is from a place on
pub length_escaped_from : (text : List ℕ) (i : ℕ) → i < length text → length (escaped (drop i text)) ≡ escaped_size (get_or text i 0) + length (escaped (drop (i + 1) text))
length_escaped_from text i h = rw add-one (from_place text i h)

pub length_escaped_nil : (text : List ℕ) (i : ℕ) → length text ≤ i → length (escaped (drop i text)) ≡ 0
length_escaped_nil [] zero h = ap length escaped-nil
length_escaped_nil [] (suc i) h = ap length escaped-nil
length_escaped_nil (b ∷ text) zero h = absurd (omega (arith, h))
length_escaped_nil (b ∷ text) (suc i) h = length_escaped_nil text i (omega (arith, h))

-- ---- texts that need no escapes

digit_plain : (b : ℕ) → IsInRange 48 57 b → is_plain b ≡ true
digit_plain b h = grind (arith, nat_tests)

kept : (b : ℕ) → is_plain b ≡ true → should_percent_encode ESCAPED b ≡ false
kept b h = escape_is b ∙ ap not h

digits_kept : (ds : List ℕ) → AllDigits 10 ds → AllByRecursion (IsKept ESCAPED) ds
digits_kept [] d = tt
digits_kept (c ∷ cs) d = (kept c (digit_plain c (digit_from_value c d.0)), digits_kept cs d.1)

unescaped : (s : List ℕ) → AllByRecursion (IsKept ESCAPED) s → escaped s ≡ s
unescaped s h = sym (escaped_is s) ∙ percent_encode_unchanged ESCAPED s (All-from_recursion (IsKept ESCAPED) s h)

pub escaped_decimal : (n : ℕ) → n < 2 ^ 64 → escaped (decimal n) ≡ decimal n
escaped_decimal n h = unescaped (decimal n) (digits_kept (decimal n) (decimal_is_IsNumeral n h).0.1)

pub escaped_signed : (z : ℤ) → mag z < 2 ^ 63 → escaped (signed_decimal z) ≡ signed_decimal z
escaped_signed (pos n) h = escaped_decimal n (omega (arith, h))
escaped_signed (negsuc n) h = unescaped (signed_decimal (negsuc n)) (kept 45 refl, digits_kept (decimal (suc n)) (decimal_is_IsNumeral (suc n) (omega (arith, h))).0.1)

-- ---- the room that is left

pub room_is : (room size : ℕ) (text : List ℕ) (r : Option ℕ) → length (escaped text) ≡ size → SomeIff r (size ≤ room) (room - size) → IsRoomAfter room text r
room_is room size text None e h = below room size (length (escaped text)) e h
  where
    below : (room size long : ℕ) → long ≡ size → (size ≤ room → ⊥) → room < long
    below room size long e h = either (cases_lt room long)
      where
        either : (room < long) ⊎ (long ≤ room) → room < long
        either (inl p) = p
        either (inr p) = absurd (h (omega (arith, p, e)))
room_is room size text (Some x) e h = omega (arith, e, h.0, h.1)
