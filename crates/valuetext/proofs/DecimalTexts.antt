-- Decimal numbers and their texts.
use Rattle.std.proofs.Common.{◌≡◌, ℕ, ℤ, pos, negsuc, zero, suc, ◌+◌, ◌-◌, ◌*◌, ◌/◌, ◌%◌, ◌^◌, ◌<◌, ◌≤◌, ◌==◌, ◌||◌, false, List, [], ◌∷◌, ◌++◌, length, slice_index, refl, sym, ◌∙◌, ap, subst, arith, append-nil, ne_eqb, drop, FitsSigned, Option, Some, None, ◌*ℤ◌, ◌<ℤ◌, ◌≤ℤ◌, unsigned_abs}
use Rattle.std.proofs.lemmas.Bool.Decides.{nat_tests}
use Rattle.std.proofs.lemmas.List.{append_assoc, length-drop, drop_all}
use Rattle.std.proofs.Math.Numerals.{add-one}
use Rattle.std.specs.Int.{w128}
use Rattle.std.specs.Prelude.{SomeIff, IsNone, IfSome}
use Rattle.std.proofs.lemmas.Nat.{div_below, div-add-mod'}
use Rattle.std.proofs.lemmas.Fmt.{decimal_by_steps_wide}
use Rattle.std.proofs.Math.Nat.{mod-lt, mod-one, div-le_self, mul_assoc, add-mul, add_assoc}
use Rattle.std.proofs.Math.Seq.{drop-cons}
use Rattle.std.specs.Fmt.{decimal}
use Rattle.jiff_core.proofs.SignedLemmas.{signed_arith}
use Rattle.jiff_fmt.specs.Text.{places}
use Rattle.jiff_fmt.proofs.ReaderLemmas.{ten_pow-pos, tenth}
use Rattle.jiff_fmt.proofs.TextLemmas.{tenth_place, places-step, places-end}
use Rattle.valuetext.specs.Decimals.{sign_of, fraction_of, unsigned_text, decimal_text, IsDecimalNumber, IsDecimalText, ReadsDecimal}
use Rattle.valuetext.specs.Laws.{DecimalsReadBack}
use Rattle.valuetext.specs.inner.Scan.{with_byte, digits_after, places_in, number_written}

-- a digit goes to the end of the number
pub digits-digit : (n d : ℕ) (rest : List ℕ) → d < 10 → digits_after n ((48 + d) ∷ rest) ≡ digits_after (n * 10 + d) rest
unfolding digits_after
digits-digit n d rest h =
    let other : (((48 + d) == 46) || ((48 + d) == 45)) ≡ false = grind (arith, nat_tests) in
    let value : 48 + d - 48 ≡ d = omega arith in
    rw (other, value)

pub places-digit : (d : ℕ) (rest : List ℕ) → d < 10 → places_in ((48 + d) ∷ rest) ≡ places_in rest
unfolding places_in
places-digit d rest h =
    let other : ((48 + d) == 46) ≡ false = grind (arith, nat_tests) in
    rw other

digits-dot : (n : ℕ) (rest : List ℕ) → digits_after n (46 ∷ rest) ≡ digits_after n rest
unfolding digits_after
digits-dot n rest = refl

digits-minus : (n : ℕ) (rest : List ℕ) → digits_after n (45 ∷ rest) ≡ digits_after n rest
unfolding digits_after
digits-minus n rest = refl

places-dot : (rest : List ℕ) → places_in (46 ∷ rest) ≡ length rest
unfolding places_in
places-dot rest = refl

places-minus : (rest : List ℕ) → places_in (45 ∷ rest) ≡ places_in rest
unfolding places_in
places-minus rest = refl

digits-none : (n : ℕ) → digits_after n [] ≡ n
unfolding digits_after
digits-none n = refl

places-none : places_in [] ≡ 0
unfolding places_in
places-none = refl

-- what the digits of a number come to, before any text; and their first byte is no minus sign
abbrev pub IsRun : ℕ → List ℕ → Type 0
IsRun n ds = (rest : List ℕ) → (digits_after 0 (ds ++ rest) ≡ digits_after n rest) × (places_in (ds ++ rest) ≡ places_in rest) × (48 ≤ slice_index (ds ++ rest) 0)

one_digit : (n : ℕ) → n < 10 → IsRun n ((48 + n) ∷ [])
one_digit n h rest =
    let value : 0 * 10 + n ≡ n = omega arith in
    (digits-digit 0 n rest h ∙ ap (λ x. digits_after x rest) value, places-digit n rest h, omega arith)

more_digits : (n : ℕ) (ds : List ℕ) → 10 ≤ n → IsRun (n / 10) ds → IsRun n (ds ++ ((48 + n % 10) ∷ []))
more_digits n ds h run rest =
    let d = n % 10 in
    let small : d < 10 = omega arith in
    let shape : (ds ++ ((48 + d) ∷ [])) ++ rest ≡ ds ++ ((48 + d) ∷ rest) = append_assoc ds ((48 + d) ∷ []) rest in
    let before = run ((48 + d) ∷ rest) in
    let value : n / 10 * 10 + d ≡ n = omega arith in
    let digits : digits_after (n / 10) ((48 + d) ∷ rest) ≡ digits_after n rest = digits-digit (n / 10) d rest small ∙ ap (λ x. digits_after x rest) value in
    rw shape (before.0 ∙ digits, before.1 ∙ places-digit d rest small, before.2)

pub decimal-run : (n : ℕ) → n < 10 ^ 64 → IsRun n (decimal n)
decimal-run = decimal_by_steps_wide IsRun one_digit more_digits

-- the places of a rest below a power of ten come to it
pub places-run : (k n m : ℕ) → m < 10 ^ k → (digits_after n (places k (10 ^ k) m) ≡ n * 10 ^ k + m) × (length (places k (10 ^ k) m) ≡ k)
places-run zero n m h =
    let none = places-end 0 (10 ^ 0) m refl in
    rw (none, digits-none n) (omega arith, refl)
places-run (suc k) n m h =
    let power = 10 ^ k in
    let tens : 10 ^ suc k / 10 ≡ power = tenth_place (suc k) k refl in
    let whole : 10 ^ suc k ≡ 10 * power = tenth (suc k) k refl in
    let positive : 0 < power = ten_pow-pos k in
    let q = m / power in
    let r = m % power in
    let digit : q < 10 = div_below _ _ _ positive (omega (arith, whole)) in
    let parts : q * power + r ≡ m = div-add-mod' m power in
    let step : places (suc k) (10 ^ suc k) m ≡ (48 + q) ∷ places k power r = rw (places-step (suc k) k (10 ^ suc k) m refl, tens) in
    let rest = places-run k (n * 10 + q) r (mod-lt m positive) in
    let sum : (n * 10 + q) * power + r ≡ n * 10 ^ suc k + m =
    rw whole (ap (λ x. x + r) (add-mul (n * 10) q power) ∙ add_assoc (n * 10 * power) (q * power) r ∙ ap (λ x. n * 10 * power + x) parts ∙ ap (λ x. x + m) (mul_assoc n 10 power)) in
    rw step (digits-digit n q (places k power r) digit ∙ rest.0 ∙ sum, ap suc rest.1)

fraction-run : (scale n m : ℕ) → (digits_after n (fraction_of scale m) ≡ n * 10 ^ scale + m % 10 ^ scale) × (places_in (fraction_of scale m) ≡ scale)
fraction-run zero n m =
    let nothing : m % 10 ^ 0 ≡ 0 = mod-one m in
    let value : n ≡ n * 10 ^ 0 + m % 10 ^ 0 = rw nothing (omega arith) in
    (digits-none n ∙ value, places-none)
fraction-run (suc k) n m =
    let run = places-run (suc k) n (m % 10 ^ suc k) (mod-lt m (ten_pow-pos (suc k))) in
    (digits-dot n _ ∙ run.0, places-dot _ ∙ run.1)

unsigned-scanned : (scale n : ℕ) → n < 10 ^ 64 → (digits_after 0 (unsigned_text scale n) ≡ n) × (places_in (unsigned_text scale n) ≡ scale) × (48 ≤ slice_index (unsigned_text scale n) 0)
unsigned-scanned scale n h =
    let small : n / 10 ^ scale < 10 ^ 64 = omega (arith, div-le_self n (10 ^ scale)) in
    let whole = decimal-run (n / 10 ^ scale) small (fraction_of scale n) in
    let fraction = fraction-run scale (n / 10 ^ scale) n in
    (whole.0 ∙ fraction.0 ∙ div-add-mod' n (10 ^ scale), whole.1 ∙ fraction.1, whole.2)

-- the number with a sign and a magnitude
pub scanned : (scale : ℕ) (z : ℤ) → IsDecimalNumber z → (digits_after 0 (decimal_text scale z) ≡ unsigned_abs z) × (places_in (decimal_text scale z) ≡ scale)
scanned scale (pos n) h =
    let run = unsigned-scanned scale n (omega (arith, signed_arith, h.1)) in
    (run.0, run.1)
scanned scale (negsuc n) h =
    let run = unsigned-scanned scale (suc n) (omega (arith, signed_arith, h.0)) in
    (digits-minus 0 _ ∙ run.0, places-minus _ ∙ run.1)

-- a text begins with a minus sign just where its number is below zero
pub first-pos : (scale : ℕ) (z : ℤ) → IsDecimalNumber z → pos 0 ≤ℤ z → slice_index (decimal_text scale z) 0 ≡ 45 → ⊥
first-pos scale (pos n) h low e =
    let run = unsigned-scanned scale n (omega (arith, signed_arith, h.1)) in
    omega (arith, run.2)
first-pos scale (negsuc n) h low e = absurd (omega (arith, signed_arith, low))

pub first-neg : (scale : ℕ) (z : ℤ) → z <ℤ pos 0 → slice_index (decimal_text scale z) 0 ≡ 45
first-neg scale (pos n) h = absurd (omega (arith, signed_arith, h))
first-neg scale (negsuc n) h = refl

-- a text tells the scale and the number
pub same_shown : (s t : ℕ) (y z : ℤ) (text : List ℕ) → IsDecimalText s y text → IsDecimalText t z text → (s ≡ t) × (y ≡ z)
same_shown s t y z text h k =
    let a = scanned s y h.1 in
    let b = scanned t z k.1 in
    let texts : decimal_text s y ≡ decimal_text t z = sym h.2 ∙ k.2 in
    let places : s ≡ t = sym a.1 ∙ ap places_in texts ∙ b.1 in
    let size : unsigned_abs y ≡ unsigned_abs z = sym a.0 ∙ ap (digits_after 0) texts ∙ b.0 in (
      places,
      same_sign y z size (λ low below. first-pos s y h.1 low (ap (λ x. slice_index x 0) texts ∙ first-neg t z below))
          (λ low below. first-pos t z k.1 low (ap (λ x. slice_index x 0) (sym texts) ∙ first-neg s y below)),
    )
  where
    same_sign : (y z : ℤ) → unsigned_abs y ≡ unsigned_abs z → (pos 0 ≤ℤ y → z <ℤ pos 0 → ⊥) → (pos 0 ≤ℤ z → y <ℤ pos 0 → ⊥) → y ≡ z
    same_sign (pos m) (pos n) e a b = ap pos e
    same_sign (pos m) (negsuc n) e a b = absurd (a (omega (arith, signed_arith)) (omega (arith, signed_arith)))
    same_sign (negsuc m) (pos n) e a b = absurd (b (omega (arith, signed_arith)) (omega (arith, signed_arith)))
    same_sign (negsuc m) (negsuc n) e a b = omega (arith, signed_arith, e)

-- a text that shows a number shows it by its digits, its dot and its sign
pub shown_is : (scale : ℕ) (z : ℤ) (text : List ℕ) → IsDecimalText scale z text → (places_in text ≡ scale) × (number_written text ≡ z)
shown_is scale z text h =
    let a = scanned scale z h.1 in
    (ap places_in h.2 ∙ a.1, rw (h.2) (by_sign scale z h.1 a.0))
  where
    by_sign : (s : ℕ) (y : ℤ) → IsDecimalNumber y → digits_after 0 (decimal_text s y) ≡ unsigned_abs y → number_written (decimal_text s y) ≡ y
    by_sign s (pos n) k e =
        let other : (slice_index (decimal_text s (pos n)) 0 == 45) ≡ false = ne_eqb _ _ (first-pos s (pos n) k (omega (arith, signed_arith))) in
        rw (other, e)
    by_sign s (negsuc n) k e = rw e refl

-- a text never shows less than its first digits
pub grows : (n : ℕ) (rest : List ℕ) → n ≤ digits_after n rest
unfolding digits_after
grows n [] = omega arith
grows n (b ∷ rest) =
    let more : n ≤ with_byte n b = grind (arith, nat_tests) in
    omega (arith, grows (with_byte n b) rest)

pub digits-next : (n b : ℕ) (rest : List ℕ) → digits_after n (b ∷ rest) ≡ digits_after (with_byte n b) rest
unfolding digits_after
digits-next n b rest = refl

pub places-found : (b : ℕ) (rest : List ℕ) → b ≡ 46 → places_in (b ∷ rest) ≡ length rest
unfolding places_in
places-found b rest e = rw e refl

pub places-next : (b : ℕ) (rest : List ℕ) → (b ≡ 46 → ⊥) → places_in (b ∷ rest) ≡ places_in rest
unfolding places_in
places-next b rest h = rw (ne_eqb _ _ h) refl

pub one_number : (scale : ℕ) (text : List ℕ) (a b : ℤ) → ReadsDecimal scale a text → ReadsDecimal scale b text → a ≡ b
one_number scale text a b h k =
    let same = same_shown h.0 k.0 h.1 k.1 text h.4 k.4 in
    h.3 ∙ ap (λ p. h.1 *ℤ pos (10 ^ (scale - p))) same.0 ∙ ap (λ z. z *ℤ pos (10 ^ (scale - k.0))) same.1 ∙ sym k.3

pub read_back : (scale : ℕ) (number : ℤ) (text : List ℕ) → IsDecimalText scale number text → ReadsDecimal scale number text
read_back scale number text h =
    let none : scale - scale ≡ 0 = omega arith in
    let value : number ≡ number *ℤ pos (10 ^ (scale - scale)) = rw none (omega (arith, signed_arith)) in
    (scale, number, omega arith, value, h)

pub decimals_read_back : DecimalsReadBack
decimals_read_back scale = (λ number a b h k. h.2 ∙ sym k.2, read_back scale, one_number scale)

-- one digit and those that are left
pub put_one : (p rest d left : ℕ) (old mid new : List ℕ) → 1 ≤ p → d ≡ rest / 10 ^ (p - 1) → left ≡ rest % 10 ^ (p - 1) → mid ≡ old ++ (48 + d) ∷ []
    → new ≡ mid ++ places (p - 1) (10 ^ (p - 1)) left → new ≡ old ++ places p (10 ^ p) rest
put_one p rest d left old mid new low a b e f =
    let next : p ≡ suc (p - 1) = omega arith in
    let tens = tenth_place p (p - 1) next in
    let step : places p (10 ^ p) rest ≡ (48 + d) ∷ places (p - 1) (10 ^ (p - 1)) left = rw (places-step p (p - 1) (10 ^ p) rest next, tens, a, b) in
    rw (f, e, step) (append_assoc old ((48 + d) ∷ []) (places (p - 1) (10 ^ (p - 1)) left))

pub put_none : (p rest : ℕ) (old : List ℕ) → p ≡ 0 → old ≡ old ++ places p (10 ^ p) rest
put_none p rest old e = rw (places-end p (10 ^ p) rest e) (sym (append-nil old))

-- a digit and the rest
pub digit_is : (p rest : ℕ) → 1 ≤ p → rest < 10 ^ p → (rest / 10 ^ (p - 1) < 10) × (rest % 10 ^ (p - 1) < 10 ^ (p - 1))
digit_is p rest low h =
    let whole : 10 ^ p ≡ 10 * 10 ^ (p - 1) = tenth p (p - 1) (omega arith) in
    (div_below rest (10 ^ (p - 1)) 10 (ten_pow-pos (p - 1)) (omega (arith, whole)), mod-lt rest (ten_pow-pos (p - 1)))

-- the whole part alone
pub whole_made : (scale m power : ℕ) (old new : List ℕ) → scale ≡ 0 → power ≡ 10 ^ scale → new ≡ old ++ decimal (m / power) → new ≡ old ++ unsigned_text scale m
whole_made scale m power old new z e f = f ∙ ap (λ x. old ++ decimal (m / x)) e ∙ ap (λ xs. old ++ xs) (rw z (sym (append-nil _)))

-- the whole part, a dot and the places
pub fraction_made : (scale m power : ℕ) (old a b new : List ℕ) → (scale ≡ 0 → ⊥) → power ≡ 10 ^ scale → a ≡ old ++ decimal (m / power) → b ≡ a ++ 46 ∷ []
    → new ≡ b ++ places scale (10 ^ scale) (m % power) → new ≡ old ++ unsigned_text scale m
fraction_made zero m power old a b new z e f g h = absurd (z refl)
fraction_made (suc k) m power old a b new z e f g h =
    let tail = places (suc k) (10 ^ suc k) (m % 10 ^ suc k) in
    let one : b ≡ (old ++ decimal (m / 10 ^ suc k)) ++ 46 ∷ [] = g ∙ ap (λ xs. xs ++ 46 ∷ []) (f ∙ ap (λ x. old ++ decimal (m / x)) e) in
    h ∙ ap (λ x. b ++ places (suc k) (10 ^ suc k) (m % x)) e ∙ ap (λ xs. xs ++ tail) one ∙ append_assoc (old ++ decimal (m / 10 ^ suc k)) (46 ∷ []) tail ∙ append_assoc old (decimal (m / 10 ^ suc k)) (46 ∷ tail)

-- a number of 128 bits has its text
pub decimal_made : (scale : ℕ) (number shown : ℤ) (m : ℕ) (empty signed text : List ℕ) → scale ≤ 38 → FitsSigned w128 number → shown ≡ number → empty ≡ [] → signed ≡ empty ++ sign_of shown
    → m ≡ unsigned_abs shown → text ≡ signed ++ unsigned_text scale m → IsDecimalText scale number text
decimal_made scale number shown m empty signed text low fits same none sign size made =
    let range : IsDecimalNumber number = omega (arith, signed_arith, fits) in
    let front : signed ≡ sign_of number = sign ∙ ap (λ xs. xs ++ sign_of shown) none ∙ ap sign_of same in
    let all : text ≡ decimal_text scale number = made ∙ ap (λ xs. xs ++ unsigned_text scale m) front ∙ ap (λ x. sign_of number ++ unsigned_text scale x) (size ∙ ap unsigned_abs same) in
    (low, range, all)

-- one byte of a text after another
pub step_on : (n i : ℕ) (text : List ℕ) → i < length text → digits_after n (drop i text) ≡ digits_after (with_byte n (slice_index text i)) (drop (i + 1) text)
step_on n i text h = rw (drop-cons text i 0 h, add-one) (digits-next n (slice_index text i) (drop (suc i) text))

pub at_end : (n i : ℕ) (text : List ℕ) → length text ≤ i → digits_after n (drop i text) ≡ n
at_end n i text h = rw (drop_all i text h) (digits-none n)

pub place_on : (i : ℕ) (text : List ℕ) → i < length text → (slice_index text i ≡ 46 → ⊥) → places_in (drop i text) ≡ places_in (drop (i + 1) text)
place_on i text h other = rw (drop-cons text i 0 h, add-one) (places-next (slice_index text i) (drop (suc i) text) other)

pub place_at : (i : ℕ) (text : List ℕ) → i < length text → slice_index text i ≡ 46 → places_in (drop i text) ≡ length text - i - 1
place_at i text h dot =
    let found = places-found (slice_index text i) (drop (suc i) text) dot in
    let cons : places_in (drop i text) ≡ length (drop (suc i) text) = rw (drop-cons text i 0 h) found in
    omega (arith, cons, length-drop {A = ℕ})

pub no_place : (i : ℕ) (text : List ℕ) → length text ≤ i → places_in (drop i text) ≡ 0
no_place i text h = rw (drop_all i text h) places-none

-- the shown number with the missing places
pub missing_none : (k : ℕ) (shown a b : ℤ) (r : Option ℤ) → SomeIff r (FitsSigned w128 (a *ℤ b)) (a *ℤ b) → a ≡ shown → b ≡ pos (10 ^ k) → IsNone r → IsDecimalNumber (shown *ℤ pos (10 ^ k)) → ⊥
missing_none k shown a b None none e f n range = none (fits_of (a *ℤ b) (subst (λ z. IsDecimalNumber z) (ap (λ z. z *ℤ pos (10 ^ k)) (sym e) ∙ ap (λ z. a *ℤ z) (sym f)) range))
  where
    fits_of : (z : ℤ) → IsDecimalNumber z → FitsSigned w128 z
    fits_of z h = omega (arith, signed_arith, h)
missing_none k shown a b (Some x) some e f n range = absurd (cc)

pub missing_some : (k : ℕ) (shown a b : ℤ) (r : Option ℤ) → SomeIff r (FitsSigned w128 (a *ℤ b)) (a *ℤ b) → a ≡ shown → b ≡ pos (10 ^ k) → IfSome r (λ n. n ≡ shown *ℤ pos (10 ^ k))
missing_some k shown a b None none e f = tt
missing_some k shown a b (Some x) some e f = some.1 ∙ ap (λ z. z *ℤ b) e ∙ ap (λ z. shown *ℤ z) f

pub reads_made : (scale p : ℕ) (x : ℤ) (bytes text : List ℕ) (r : Option ℤ) → p ≤ scale → IfSome r (λ n. n ≡ x *ℤ pos (10 ^ (scale - p))) → IsDecimalText p x bytes → bytes ≡ text
    → IfSome r (λ n. ReadsDecimal scale n text)
reads_made scale p x bytes text None low product is e = tt
reads_made scale p x bytes text (Some n) low product is e = (p, x, low, product, subst (λ b. IsDecimalText p x b) e is)

-- the texts of one number with one scale are the same
pub printed_same : (p q : ℕ) (y z : ℤ) (bytes text : List ℕ) → IsDecimalText p y bytes → IsDecimalText q z text → p ≡ q → y ≡ z → bytes ≡ text
printed_same p q y z bytes text h k e f = h.2 ∙ ap (λ x. decimal_text x y) e ∙ ap (λ x. decimal_text q x) f ∙ sym k.2

pub product_same : (scale p q : ℕ) (y z n : ℤ) → n ≡ y *ℤ pos (10 ^ (scale - p)) → p ≡ q → y ≡ z → n ≡ z *ℤ pos (10 ^ (scale - q))
product_same scale p q y z n h e f = h ∙ ap (λ x. y *ℤ pos (10 ^ (scale - x))) e ∙ ap (λ x. x *ℤ pos (10 ^ (scale - q))) f

-- a number of at most 16 bytes fits 128 bits
pub fits_decimal : (z y : ℤ) → z ≡ y → IsDecimalNumber y → FitsSigned w128 z
fits_decimal z y e h = omega (arith, signed_arith, e, h)
