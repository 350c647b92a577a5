-- Numbers of few bits, read by one load of eight bytes.
use Rattle.std.proofs.Common.{◌≡◌, ℕ, zero, suc, ◌+◌, ◌-◌, ◌*◌, ◌/◌, ◌%◌, ◌^◌, ◌<◌, ◌≤◌, List, [], ◌∷◌, ◌++◌, length, get_or, take, drop, refl, sym, ap, ◌∙◌, arith, inl, inr, add-mul as add-mul-distrib}
use Rattle.std.specs.Prelude.{slice_range, slice_index, bit_and}
use Rattle.std.proofs.Math.Seq.{drop-nil, take-nil}
use Rattle.std.proofs.Math.Nat.{div-div-eq-div-mul, zero-div, zero-mod, pow-suc}
use Rattle.std.proofs.lemmas.Nat.{and_mask, mod-pow-add}
use Rattle.std.proofs.Math.Pow.{pow_mono}
use Rattle.std.proofs.lemmas.List.{take-take as take-again, drop-take, length-drop, length-take, length-append, get_or-take, get_or_past, get_or_default, get_or-drop, get_or_append_left, get_or-append_right}
use Rattle.std.proofs.lemmas.Bool.{cases_lt}
use Rattle.byteorder.specs.Endian.{little_from, little_number}
use Rattle.bits.specs.Bits.{bits, number, IsPacked}
use Rattle.bits.proofs.BitLists.{bits_below, number_bound}

-- bits without the first r
pub number-drop : (r : ℕ) (xs : List ℕ) → ((i : ℕ) → get_or xs i 0 < 2) → number (drop r xs) ≡ number xs / 2 ^ r
number-drop zero xs low = omega arith
number-drop (suc r) [] low = sym (zero-div (2 ^ suc r))
number-drop (suc r) (x ∷ xs) low =
    let f : x < 2 = low 0 in
    let half : (x + 2 * number xs) / 2 ≡ number xs = omega (arith, f) in
    let p : 2 ^ suc r ≡ 2 * 2 ^ r = omega (arith, pow-suc 2 r) in
    number-drop r xs (λ i. low (suc i)) ∙ ap (λ (n : ℕ). n / 2 ^ r) (sym half) ∙ div-div-eq-div-mul (x + 2 * number xs) 2 (2 ^ r) ∙ ap (λ (n : ℕ). (x + 2 * number xs) / n) (sym p)

-- the first w bits
pub number-take : (w : ℕ) (xs : List ℕ) → ((i : ℕ) → get_or xs i 0 < 2) → number (take w xs) ≡ number xs % 2 ^ w
number-take zero xs low = omega arith
number-take (suc w) [] low = sym (zero-mod (2 ^ suc w))
number-take (suc w) (x ∷ xs) low =
    let f : x < 2 = low 0 in
    let n = x + 2 * number xs in
    let half : n / 2 ≡ number xs = omega (arith, f) in
    let rest : n % 2 ≡ x = omega (arith, f) in
    let e : suc w ≡ w + 1 = omega arith in
    let m : n % 2 ^ (w + 1) ≡ (n / 2 ^ 1 % 2 ^ w) * 2 ^ 1 + n % 2 ^ 1 = mod-pow-add n w 1 in
    let more = number-take w xs (λ i. low (suc i)) in
    let same : (n / 2 % 2 ^ w) * 2 + n % 2 ≡ x + 2 * number (take w xs) = rw (half, rest, more) (omega arith) in
    sym (ap (λ (k : ℕ). n % 2 ^ k) e ∙ m ∙ same)

-- the bits of a byte, and of those after it
number-byte : (b : ℕ) (bytes : List ℕ) → b < 256 → number (bits (b ∷ bytes)) ≡ b + 256 * number (bits bytes)
number-byte b bytes lt = omega (arith, lt)

from-next : (i n x : ℕ) (xs : List ℕ) → little_from (suc i) n (x ∷ xs) ≡ little_from i n xs
from-next i zero x xs = refl
from-next i (suc n) x xs = ap (λ (k : ℕ). slice_index xs i + 256 * k) (from-next (suc i) n x xs)

-- the number of bytes is that of their bits
little-bits : (n : ℕ) (xs : List ℕ) → n ≤ length xs → ((i : ℕ) → get_or xs i 0 < 256) → little_from 0 n xs ≡ number (bits (take n xs))
little-bits zero xs le low = refl
little-bits (suc n) [] le low = absurd (omega arith)
little-bits (suc n) (x ∷ xs) le low =
    let more = little-bits n xs (omega (arith, le)) (λ i. low (suc i)) in
    ap (λ (k : ℕ). x + 256 * k) (from-next 0 n x xs ∙ more) ∙ sym (number-byte x (take n xs) (low 0))

pub bits-drop : (a : ℕ) (bytes : List ℕ) → bits (drop a bytes) ≡ drop (8 * a) (bits bytes)
bits-drop zero bytes = refl
bits-drop (suc a) [] = sym (drop-nil (8 * suc a))
bits-drop (suc a) (b ∷ bytes) =
    let e : 8 * suc a ≡ suc (suc (suc (suc (suc (suc (suc (suc (8 * a)))))))) = omega arith in
    rw e (bits-drop a bytes)

bits-take : (a : ℕ) (bytes : List ℕ) → bits (take a bytes) ≡ take (8 * a) (bits bytes)
bits-take zero bytes = refl
bits-take (suc a) [] = sym (take-nil (8 * suc a))
bits-take (suc a) (b ∷ bytes) =
    let e : 8 * suc a ≡ suc (suc (suc (suc (suc (suc (suc (suc (8 * a)))))))) = omega arith in
    rw (e, bits-take a bytes) refl

drop-again : (a b : ℕ) (xs : List ℕ) → drop b (drop a xs) ≡ drop (a + b) xs
drop-again zero b xs = let e : 0 + b ≡ b = omega arith in rw e refl
drop-again (suc a) b [] = drop-nil b ∙ sym (drop-nil (suc a + b))
drop-again (suc a) b (x ∷ xs) =
    let e : suc a + b ≡ suc (a + b) = omega arith in
    rw e (drop-again a b xs)

-- the bits from `start` on, seen from a byte at or before them
pub range-drop : (a : ℕ) (bytes : List ℕ) (from to : ℕ) → slice_range (bits (drop a bytes)) from to ≡ slice_range (bits bytes) (8 * a + from) (8 * a + to)
range-drop a bytes from to =
    let size : (8 * a + to) - (8 * a + from) ≡ to - from = omega arith in
    rw (bits-drop a bytes, drop-again (8 * a) from (bits bytes), size) refl

-- a load of eight bytes, shifted and masked
pub load-is : (bytes : List ℕ) (start width : ℕ) → ((i : ℕ) → get_or bytes i 0 < 256) → width ≤ 32 → start / 8 + 8 ≤ length bytes
    → bit_and (little_number 8 (drop (start / 8) bytes) / 2 ^ (start % 8)) (2 ^ width - 1) ≡ number (slice_range (bits bytes) start (start + width))
load-is bytes start width low narrow room =
    let a = start / 8 in
    let r = start % 8 in
    let ys = drop a bytes in
    let long : 8 ≤ length ys = omega (arith, length-drop a bytes, room) in
    let small : (i : ℕ) → get_or ys i 0 < 256 = λ i. rw (get_or-drop a bytes i 0) (low (a + i)) in
    let word : little_number 8 ys ≡ number (bits (take 8 ys)) = little-bits 8 ys long small in
    let z = bits (take 8 ys) in
    let below : (i : ℕ) → get_or z i 0 < 2 = bits_below (take 8 ys) in
    let below_r : (i : ℕ) → get_or (drop r z) i 0 < 2 = λ i. rw (get_or-drop r z i 0) (below (r + i)) in
    let masked : bit_and (little_number 8 ys / 2 ^ r) (2 ^ width - 1) ≡ number (take width (drop r z)) =
    and_mask (little_number 8 ys / 2 ^ r) width ∙ ap (λ (n : ℕ). n / 2 ^ r % 2 ^ width) word ∙ ap (λ (n : ℕ). n % 2 ^ width) (sym (number-drop r z below)) ∙ sym (number-take width (drop r z) below_r) in
    let eight : 64 ≡ r + (64 - r) = omega arith in
    let cut : drop r z ≡ take (64 - r) (drop r (bits ys)) = ap (λ (t : List ℕ). drop r t) (bits-take 8 ys ∙ ap (λ (n : ℕ). take n (bits ys)) eight) ∙ drop-take r (64 - r) (bits ys) in
    let taken : take width (drop r z) ≡ take width (drop r (bits ys)) = ap (λ (t : List ℕ). take width t) cut ∙ take-again width (64 - r) (drop r (bits ys)) (omega (arith, narrow)) in
    let from : drop r (bits ys) ≡ drop start (bits bytes) = ap (λ (t : List ℕ). drop r t) (bits-drop a bytes) ∙ drop-again (8 * a) r (bits bytes) ∙ ap (λ (n : ℕ). drop n (bits bytes)) (omega arith) in
    let size : (start + width) - start ≡ width = omega arith in
    rw size (masked ∙ ap number (taken ∙ ap (λ (t : List ℕ). take width t) from))

-- eight numbers, one after the other
pub packed-eight : (bytes : List ℕ) (w a b c d e f g h : ℕ) → w ≤ length bytes
    → a ≡ number (slice_range (bits bytes) 0 (0 + w)) → b ≡ number (slice_range (bits bytes) w (w + w)) → c ≡ number (slice_range (bits bytes) (2 * w) (2 * w + w))
    → d ≡ number (slice_range (bits bytes) (3 * w) (3 * w + w)) → e ≡ number (slice_range (bits bytes) (4 * w) (4 * w + w)) → f ≡ number (slice_range (bits bytes) (5 * w) (5 * w + w))
    → g ≡ number (slice_range (bits bytes) (6 * w) (6 * w + w)) → h ≡ number (slice_range (bits bytes) (7 * w) (7 * w + w))
    → IsPacked bytes w (a ∷ b ∷ c ∷ d ∷ e ∷ f ∷ g ∷ h ∷ [])
packed-eight bytes w a b c d e f g h room ia ib ic id ie if_ ig ih = record { within = omega (arith, room); each = at }
  where
    moved : (i k x y : ℕ) → k ≡ i * w → x ≡ number (slice_range (bits bytes) k (k + w)) → x ≡ number (slice_range (bits bytes) (i * w) ((i + 1) * w))
    moved i k x y p q =
        let to : k + w ≡ (i + 1) * w = rw p (omega arith) in
        q ∙ ap (λ (n : ℕ). number (slice_range (bits bytes) k n)) to ∙ ap (λ (n : ℕ). number (slice_range (bits bytes) n ((i + 1) * w))) p

    at : (i : ℕ) → i < 8 → slice_index (a ∷ b ∷ c ∷ d ∷ e ∷ f ∷ g ∷ h ∷ []) i ≡ number (slice_range (bits bytes) (i * w) ((i + 1) * w))
    at zero lt = moved 0 0 a 0 (omega arith) ia
    at (suc zero) lt = moved 1 w b 0 (omega arith) ib
    at (suc (suc zero)) lt = moved 2 (2 * w) c 0 refl ic
    at (suc (suc (suc zero))) lt = moved 3 (3 * w) d 0 refl id
    at (suc (suc (suc (suc zero)))) lt = moved 4 (4 * w) e 0 refl ie
    at (suc (suc (suc (suc (suc zero))))) lt = moved 5 (5 * w) f 0 refl if_
    at (suc (suc (suc (suc (suc (suc zero)))))) lt = moved 6 (6 * w) g 0 refl ig
    at (suc (suc (suc (suc (suc (suc (suc zero))))))) lt = moved 7 (7 * w) h 0 refl ih
    at (suc (suc (suc (suc (suc (suc (suc (suc i)))))))) lt = absurd (omega arith)

-- numbers, and after them those of the bytes that are left
pub packed-more : (bytes : List ℕ) (w at : ℕ) (xs ys : List ℕ) → at ≤ length bytes → 8 * at ≡ length xs * w → IsPacked bytes w xs → IsPacked (drop at bytes) w ys → IsPacked bytes w (xs ++ ys)
packed-more bytes w at xs ys room used one two = record { within = rw (length-append xs ys) whole; each = each }
  where
    whole : (length xs + length ys) * w ≤ 8 * length bytes
    whole =
        let left = two.within in
        let size : length (drop at bytes) ≡ length bytes - at = length-drop at bytes in
        let parts : (length xs + length ys) * w ≡ length xs * w + length ys * w = add-mul-distrib (length xs) (length ys) w in
        omega (arith, left, size, parts, used, room)

    later : (j : ℕ) → j < length ys → slice_index ys j ≡ number (slice_range (bits bytes) ((length xs + j) * w) ((length xs + j + 1) * w))
    later j lt =
        let from : 8 * at + j * w ≡ (length xs + j) * w = rw used (sym (add-mul-distrib (length xs) j w)) in
        let to : 8 * at + (j + 1) * w ≡ (length xs + j + 1) * w = rw used (sym (add-mul-distrib (length xs) (j + 1) w) ∙ ap (λ (n : ℕ). n * w) (omega arith)) in
        two.each j lt ∙ ap number (range-drop at bytes (j * w) ((j + 1) * w)) ∙ ap (λ (n : ℕ). number (slice_range (bits bytes) n (8 * at + (j + 1) * w))) from ∙ ap (λ (n : ℕ). number (slice_range (bits bytes) ((length xs + j) * w) n)) to

    each : (i : ℕ) → i < length (xs ++ ys) → slice_index (xs ++ ys) i ≡ number (slice_range (bits bytes) (i * w) ((i + 1) * w))
    each i lt =
        elim (cases_lt i (length xs)) [
          | inl low ↦ get_or_append_left xs ys 0 i low ∙ one.each i low
          | inr high ↦
              let j : i ≡ length xs + (i - length xs) = omega arith in
              let few : i - length xs < length ys = omega (arith, lt, length-append xs ys) in
              get_or-append_right xs ys (length xs) i 0 refl high ∙ later (i - length xs) few ∙ ap (λ (n : ℕ). number (slice_range (bits bytes) (n * w) ((n + 1) * w))) (sym j)
        ]

-- one number more
pub packed-next : (bytes : List ℕ) (w x : ℕ) (xs : List ℕ) → (length xs + 1) * w ≤ 8 * length bytes → IsPacked bytes w xs → x ≡ number (slice_range (bits bytes) (length xs * w) ((length xs + 1) * w)) → IsPacked bytes w (xs ++ x ∷ [])
packed-next bytes w x xs room one next = record { within = rw (length-append xs (x ∷ [])) (omega (arith, room)); each = each }
  where
    each : (i : ℕ) → i < length (xs ++ x ∷ []) → slice_index (xs ++ x ∷ []) i ≡ number (slice_range (bits bytes) (i * w) ((i + 1) * w))
    each i lt =
        elim (cases_lt i (length xs)) [
          | inl low ↦ get_or_append_left xs (x ∷ []) 0 i low ∙ one.each i low
          | inr high ↦
              let j : i ≡ length xs = omega (arith, lt, high, length-append xs (x ∷ [])) in
              let none : i - length xs ≡ 0 = omega (arith, j) in
              get_or-append_right xs (x ∷ []) (length xs) i 0 refl high ∙ ap (λ (n : ℕ). slice_index (x ∷ []) n) none ∙ next ∙ ap (λ (n : ℕ). number (slice_range (bits bytes) (n * w) ((n + 1) * w))) (sym j)
        ]

range-below : (bytes : List ℕ) (from to i : ℕ) → get_or (slice_range (bits bytes) from to) i 0 < 2
range-below bytes from to i =
    elim (cases_lt i (to - from)) [
      | inl low ↦ rw (get_or-take (to - from) (drop from (bits bytes)) i 0 low, get_or-drop from (bits bytes) i 0) (bits_below bytes (from + i))
      | inr past ↦ rw (get_or_past (slice_range (bits bytes) from to) i 0 (omega (arith, length-take (to - from) (drop from (bits bytes))))) (omega arith)
    ]

-- the number of w bits
pub range-small : (bytes : List ℕ) (from to w : ℕ) → to ≤ from + w → number (slice_range (bits bytes) from to) < 2 ^ w
range-small bytes from to w le =
    let ys = slice_range (bits bytes) from to in
    let long : length ys ≤ w = omega (arith, length-take (to - from) (drop from (bits bytes)), le) in
    let top : 2 ^ length ys ≤ 2 ^ w = pow_mono {i = length ys} {j = w} long in
    omega (arith, number_bound ys (range-below bytes from to), top)

-- packed numbers have no more bits than their width
pub packed-small : (bytes : List ℕ) (w : ℕ) (xs : List ℕ) → IsPacked bytes w xs → (k d : ℕ) → k < length xs → get_or xs k d < 2 ^ w
packed-small bytes w xs one k d lt =
    let is : get_or xs k d ≡ number (slice_range (bits bytes) (k * w) ((k + 1) * w)) = get_or_default xs k d 0 lt ∙ one.each k lt in
    let small = range-small bytes (k * w) ((k + 1) * w) w (omega (arith, add-mul-distrib k 1 w)) in
    rw is small

-- a list of eight is its items
pub eight-items : (xs : List ℕ) → length xs ≡ 8 → get_or xs 0 0 ∷ get_or xs 1 0 ∷ get_or xs 2 0 ∷ get_or xs 3 0 ∷ get_or xs 4 0 ∷ get_or xs 5 0 ∷ get_or xs 6 0 ∷ get_or xs 7 0 ∷ [] ≡ xs
eight-items (a ∷ b ∷ c ∷ d ∷ e ∷ f ∷ g ∷ h ∷ []) l = refl
eight-items [] l = absurd (omega arith)
eight-items (a ∷ []) l = absurd (omega arith)
eight-items (a ∷ b ∷ []) l = absurd (omega arith)
eight-items (a ∷ b ∷ c ∷ []) l = absurd (omega arith)
eight-items (a ∷ b ∷ c ∷ d ∷ []) l = absurd (omega arith)
eight-items (a ∷ b ∷ c ∷ d ∷ e ∷ []) l = absurd (omega arith)
eight-items (a ∷ b ∷ c ∷ d ∷ e ∷ f ∷ []) l = absurd (omega arith)
eight-items (a ∷ b ∷ c ∷ d ∷ e ∷ f ∷ g ∷ []) l = absurd (omega arith)
eight-items (a ∷ b ∷ c ∷ d ∷ e ∷ f ∷ g ∷ h ∷ i ∷ xs) l = absurd (omega arith)
