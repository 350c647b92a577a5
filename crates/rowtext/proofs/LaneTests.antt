-- From a vector's mask to the bytes before the first that a test finds.
use Rattle.std.proofs.Common.{◌≡◌, ℕ, zero, suc, ◌+◌, ◌-◌, ◌%◌, ◌^◌, ◌<◌, ◌≤◌, Bool, true, false, not, cond, eqb, leb, ltb, ◌&&◌, inl, inr, List, [], ◌∷◌, length, get_or, map, replicate, Fits, w8, refl, sym, ap, ap₂, ◌∙◌, arith}
use Rattle.std.proofs.lemmas.Bool.{and_parts, cases_lt, not-false as no_other}
use Rattle.std.proofs.lemmas.Simd.{length-chunk, chunk-fits, zip2_splat, zip2_splat_left, zip2_of_maps, map-map, mask_l-mod, first_set_mask_l, run_in_chunk_le, run_in_chunk_fails}
use Rattle.std.proofs.lemmas.List.{get_or_default, length-map}
use Rattle.std.specs.List.{AllPass}
use lib.Bits.{bit_and, bit_or}
use lib.Lanes.{chunk, mask_l, zip2, top, Each1}
use Rattle.json.specs.Run.{is_stop}
use Rattle.json.specs.Written.{PlainBetween}
use Rattle.rowtext.specs.inner.FirstLane.{first_lane}
use Rattle.rowtext.specs.inner.LowerDigits.{is_lower_digit, DigitsBetween}

-- ---- a test, and what a lane is by it

abbrev agree : Bool → Bool → Bool
agree true b = b
agree false b = not b

agree_same : (a b : Bool) → agree a b ≡ true → a ≡ b
agree_same true true h = refl
agree_same true false h = sym h
agree_same false true h = h
agree_same false false h = refl

-- the first n bytes are found by both
abbrev all_found : (ℕ → ℕ) → (ℕ → Bool) → ℕ → Bool
all_found f p zero = true
all_found f p (suc n) = agree (top 7 (f n)) (p n) && all_found f p n

found_at : (f : ℕ → ℕ) (p : ℕ → Bool) (n k : ℕ) → all_found f p n ≡ true → k < n → top 7 (f k) ≡ p k
found_at f p zero k h lt = absurd (omega (arith, lt))
found_at f p (suc n) k h lt =
    let parts = and_parts (agree (top 7 (f n)) (p n)) (all_found f p n) h in
    elim (cases_lt k n) [
      | inl below ↦ found_at f p n k parts.1 below
      | inr same ↦
          let e : k ≡ n = omega arith in
          rw e (agree_same (top 7 (f n)) (p n) parts.0)
    ]

found : (f : ℕ → ℕ) (p : ℕ → Bool) → all_found f p 256 ≡ true → (v : List ℕ) → Each1 (Fits w8) v → map (top 7) (map f v) ≡ map p v
found f p all [] fits = refl
found f p all (x ∷ xs) fits = ap₂ (λ a b. a ∷ b) (found_at f p 256 x all fits.0.fits) (found f p all xs fits.1)

-- the lanes of a load before the first that the test finds
abbrev Before : (ℕ → Bool) → List ℕ → ℕ → ℕ → ℕ → Type 0
Before p d i n r = (r ≤ n) × ((k : ℕ) → i ≤ k → k < i + r → p (get_or d k 0) ≡ false)

counted : (f : ℕ → ℕ) (p : ℕ → Bool) (d z : List ℕ) (i n r : ℕ) → all_found f p 256 ≡ true → i + n ≤ length d → n ≤ 64 → ((k : ℕ) → Fits w8 (get_or d k 0)) → z ≡ map f (chunk i n d)
    → r ≡ first_lane (mask_l (map (top 7) z) % 2 ^ 64) n → Before p d i n r
counted f p d z i n r all room few fits is made =
    let v = chunk i n d in
    let long = length-chunk i n d room in
    let mask : mask_l (map (top 7) z) % 2 ^ 64 ≡ mask_l (map p v) =
    ap (λ l. mask_l l % 2 ^ 64) (ap (map (top 7)) is ∙ found f p all v (chunk-fits w8 i n d fits)) ∙ mask_l-mod (map p v) 64 (omega (arith, length-map v p, long, few)) in
    let run = made ∙ ap (λ m. first_lane m n) mask ∙ first_set_mask_l p v n long few in
    (run_in_chunk_le p d i n r 0 room run, run_in_chunk_fails p d i n r 0 room run)

-- ---- bytes that stand in a string as they are

abbrev hit : ℕ → ℕ → ℕ
hit a b = cond (eqb a b) 255 0

abbrev below : ℕ → ℕ → ℕ
below a b = cond (ltb a b) 255 0

pub plain_counted : (d : List ℕ) (i n r : ℕ) → i + n ≤ length d → n ≤ 64 → ((k : ℕ) → Fits w8 (get_or d k 0))
    → r ≡ first_lane (mask_l (map (top 7) (zip2 bit_or (zip2 bit_or (zip2 hit (chunk i n d) (replicate n 34)) (zip2 hit (chunk i n d) (replicate n 92))) (zip2 below (chunk i n d) (replicate n 32)))) % 2 ^ 64) n
    → (r ≤ n) × PlainBetween d i (i + r)
plain_counted d i n r room few fits made =
    let v = chunk i n d in
    let long = length-chunk i n d room in
    let either = zip2_of_maps bit_or (λ x. hit x 34) (λ x. hit x 92) v (zip2_splat hit v n 34 long) (zip2_splat hit v n 92 long) in
    let any = zip2_of_maps bit_or (λ x. bit_or (hit x 34) (hit x 92)) (λ x. below x 32) v either (zip2_splat below v n 32 long) in
    let run = counted (λ x. bit_or (bit_or (hit x 34) (hit x 92)) (below x 32)) is_stop d _ i n r refl room few fits any made in
    (run.0, λ k from to. ap not (run.1 k from to))

-- ---- hexadecimal digits in lower case

abbrev is_other : ℕ → Bool
is_other x = not (is_lower_digit x)

abbrev less : ℕ → ℕ → ℕ
less a b = (a + (256 - b)) % 256

abbrev at_most : ℕ → ℕ → ℕ
at_most a b = cond (leb a b) 255 0

above : (f : ℕ → ℕ) (y n : ℕ) (v : List ℕ) {a : List ℕ} → length v ≡ n → a ≡ map f v → zip2 at_most (replicate n y) a ≡ map (λ x. at_most y (f x)) v
above f y n v long p = ap (zip2 at_most (replicate n y)) p ∙ zip2_splat_left at_most y n (map f v) (length-map v f ∙ long) ∙ map-map (at_most y) f v

pub digits_counted : (d : List ℕ) (i n r : ℕ) → i + n ≤ length d → n ≤ 64 → ((k : ℕ) → Fits w8 (get_or d k 0))
    → r ≡ first_lane (mask_l (map (top 7) (zip2 bit_and (zip2 at_most (replicate n 10) (zip2 less (chunk i n d) (replicate n 48))) (zip2 at_most (replicate n 6) (zip2 less (chunk i n d) (replicate n 97))))) % 2 ^ 64) n
    → (r ≤ n) × DigitsBetween d i (i + r)
digits_counted d i n r room few fits made =
    let v = chunk i n d in
    let long = length-chunk i n d room in
    let low = above (λ x. less x 48) 10 n v long (zip2_splat less v n 48 long) in
    let high = above (λ x. less x 97) 6 n v long (zip2_splat less v n 97 long) in
    let both = zip2_of_maps bit_and (λ x. at_most 10 (less x 48)) (λ x. at_most 6 (less x 97)) v low high in
    let run = counted (λ x. bit_and (at_most 10 (less x 48)) (at_most 6 (less x 97))) is_other d _ i n r refl room few fits both made in
    (run.0, λ k from to. no_other (is_lower_digit (get_or d k 0)) (run.1 k from to))

-- so are all
pub all_between : (s : List ℕ) (n : ℕ) → n ≡ length s → DigitsBetween s 0 n → AllPass is_lower_digit s
all_between s n all h k d less = ap is_lower_digit (get_or_default s k d 0 less) ∙ h k (omega arith) (omega (arith, all, less))
