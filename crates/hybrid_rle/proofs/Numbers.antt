-- Numbers of bytes.
use Rattle.std.proofs.Common.{◌≡◌, ℕ, zero, suc, ◌+◌, ◌-◌, ◌*◌, ◌/◌, ◌^◌, ◌<◌, ◌≤◌, List, [], ◌∷◌, length, get_or, take, drop, refl, sym, ap, ◌∙◌, arith}
use Rattle.std.specs.Int.{byte_at, bytes_low_first}
use Rattle.std.proofs.Math.Nat.{pow-suc, div-div-eq-div-mul}
use Rattle.std.proofs.lemmas.List.{length-drop, drop_more, get_or-drop}
use Rattle.std.proofs.lemmas.Nat.{pow-add}
use Rattle.std.proofs.Math.Pow.{pow_mono}
use Rattle.hybrid_rle.specs.Hybrid.{little_endian}

eight_more : (n : ℕ) → 2 ^ (8 * suc n) ≡ 256 * 2 ^ (8 * n)
eight_more n = ap (λ (k : ℕ). 2 ^ k) (let e : 8 * suc n ≡ 8 + 8 * n = omega arith in e) ∙ pow-add 2 8 (8 * n)

pub little_endian_bound : (bytes : List ℕ) → ((i : ℕ) → get_or bytes i 0 < 256) → little_endian bytes < 2 ^ (8 * length bytes)
little_endian_bound [] fits = omega arith
little_endian_bound (b ∷ bytes) fits =
    let first : b < 256 = fits 0 in
    let others = little_endian_bound bytes (λ i. fits (suc i)) in
    rw (eight_more (length bytes)) (omega (arith, others))

-- one byte more from the end
pub record OneMore (bytes : List ℕ) (k : ℕ) : Type 0 where
  pub is : little_endian (drop (length bytes - (k + 1)) bytes) ≡ little_endian (drop (length bytes - k) bytes) * 256 + get_or bytes (length bytes - 1 - k) 0
  pub fits : little_endian (drop (length bytes - k) bytes) * 256 + get_or bytes (length bytes - 1 - k) 0 < 2 ^ 64

pub one_more : (bytes : List ℕ) (k : ℕ) → length bytes ≤ 8 → k < length bytes → ((i : ℕ) → get_or bytes i 0 < 256) → OneMore bytes k
one_more bytes k few lt fits =
    let at = length bytes - (k + 1) in
    let below : at < length bytes = omega arith in
    let more = drop_more bytes at 0 below in
    let next : at + 1 ≡ length bytes - k = omega arith in
    let same : length bytes - 1 - k ≡ at = omega arith in
    let e : little_endian (drop at bytes) ≡ little_endian (drop (length bytes - k) bytes) * 256 + get_or bytes (length bytes - 1 - k) 0 =
    rw (same, ← next) (ap little_endian more ∙ (let s : get_or bytes at 0 + 256 * little_endian (drop (at + 1) bytes) ≡ little_endian (drop (at + 1) bytes) * 256 + get_or bytes at 0 = omega arith in s)) in
    let bound = little_endian_bound (drop at bytes) (λ i. rw (get_or-drop at bytes i 0) (fits (at + i))) in
    let size : length (drop at bytes) ≡ k + 1 = omega (arith, length-drop at bytes) in
    let most : 2 ^ (8 * (k + 1)) ≤ 2 ^ 64 = pow_mono {i = 8 * (k + 1)} {j = 64} (omega arith) in
    record { is = e; fits = rw (← e) (let b : little_endian (drop at bytes) < 2 ^ (8 * (k + 1)) = rw size at bound in omega (arith, b, most)) }

-- ---- the bytes of a number

take_low : (i m k n : ℕ) → k ≤ m → take k (bytes_low_first i m n) ≡ bytes_low_first i k n
take_low i m zero n le = refl
take_low i zero (suc k) n le = absurd (omega arith)
take_low i (suc m) (suc k) n le = ap (λ (t : List ℕ). byte_at i n ∷ t) (take_low (suc i) m k n (omega arith))

low_from : (i k n : ℕ) → n / 256 ^ suc i < 2 ^ (8 * k) → little_endian (bytes_low_first (suc i) k n) ≡ n / 256 ^ suc i
low_from i zero n lt = let none : n / 256 ^ suc i < 1 = lt in omega arith
low_from i (suc k) n lt =
    let x = n / 256 ^ suc i in
    let next : n / 256 ^ suc (suc i) ≡ x / 256 = ap (λ (d : ℕ). n / d) (pow-suc 256 (suc i)) ∙ sym (div-div-eq-div-mul n (256 ^ suc i) 256) in
    let fits : x < 256 * 2 ^ (8 * k) = rw (← eight_more k) lt in
    let less : n / 256 ^ suc (suc i) < 2 ^ (8 * k) = omega (arith, next, fits) in
    let rest = low_from (suc i) k n less in
    omega (arith, next, rest)

low_all : (k n : ℕ) → n < 2 ^ (8 * k) → little_endian (bytes_low_first 0 k n) ≡ n
low_all zero n lt = omega (arith, lt)
low_all (suc k) n lt =
    let fits : n < 256 * 2 ^ (8 * k) = rw (← eight_more k) lt in
    let less : n / 256 ^ suc 0 < 2 ^ (8 * k) = omega (arith, fits) in
    let rest = low_from 0 k n less in
    omega (arith, rest)

-- so many low bytes of a number hold it
pub low_bytes : (w n : ℕ) → w ≤ 64 → n < 2 ^ w → little_endian (take ((w + 7) / 8) (bytes_low_first 0 8 n)) ≡ n
low_bytes w n wide narrow =
    let size = (w + 7) / 8 in
    let most : 2 ^ w ≤ 2 ^ (8 * size) = pow_mono {i = w} {j = 8 * size} (omega arith) in
    ap little_endian (take_low 0 8 size n (omega arith)) ∙ low_all size n (omega (arith, narrow, most))
