-- Numbers in groups of seven bits.
use Rattle.std.proofs.Common.{◌≡◌, ◌⊎◌, ℕ, ◌+◌, ◌-◌, ◌*◌, ◌/◌, ◌%◌, ◌^◌, ◌<◌, ◌≤◌, List, [], ◌∷◌, ◌++◌, length, get_or, set, take, sym, ap, subst, ◌∙◌, arith, inl, inr, add-one}
use Rattle.std.proofs.lemmas.List.{length-set, get_or_append_left, get_or_at, take_all, take_more_set, get_or-set_same, get_or-set_other, length-append, take_more, length-take-le, get_or-take}
use Rattle.std.proofs.lemmas.Nat.{shl_whole, and_mask}
use Rattle.std.proofs.lemmas.Bool.{cases_lt}
use Rattle.std.proofs.Math.Nat.{pow-le-pow_right, mul-le-mul_left}
use Rattle.std.specs.Int.Bits.{bit_and}
use Rattle.bits.proofs.Sevens.{seven_more, powers_of_128 as powers}
use Rattle.bits.specs.Varint.{groups, IsUleb}

pub groups_push : (xs : List ℕ) (b : ℕ) → groups (xs ++ b ∷ []) ≡ groups xs + 2 ^ (7 * length xs) * (b % 128)
groups_push [] b = omega arith
groups_push (x ∷ xs) b =
    let e = groups_push xs b in
    let p = seven_more (length xs) in
    rw (e, p) (omega arith)

pub groups_bound : (xs : List ℕ) → groups xs < 2 ^ (7 * length xs)
groups_bound [] = omega arith
groups_bound (x ∷ xs) = rw (seven_more (length xs)) (omega (arith, groups_bound xs))

-- one more group
pub groups_more : (bytes : List ℕ) (at : ℕ) → at < length bytes → groups (take (at + 1) bytes) ≡ groups (take at bytes) + (get_or bytes at 0 % 128) * 2 ^ (7 * at)
groups_more bytes at lt =
    let n : length (take at bytes) ≡ at = length-take-le at bytes (omega arith) in
    let e = groups_push (take at bytes) (get_or bytes at 0) in
    rw (take_more bytes at 0 lt, e, n) (omega arith)

pub groups_below : (bytes : List ℕ) (at : ℕ) → at ≤ length bytes → groups (take at bytes) < 2 ^ (7 * at)
groups_below bytes at le =
    let n : length (take at bytes) ≡ at = length-take-le at bytes le in
    rw n at (groups_bound (take at bytes))

-- the shift of a group loses nothing
pub shifted : (b at : ℕ) → at ≤ 8 → (bit_and b 127 * 2 ^ (7 * at)) % 2 ^ 64 ≡ (b % 128) * 2 ^ (7 * at)
shifted b at le = rw (and_mask b 7) (shl_whole (b % 128) 7 (7 * at) 64 (omega arith) (omega arith))

-- the shift of the tenth group loses nothing either
pub shifted_last : (b : ℕ) → b ≤ 1 → (bit_and b 127 * 2 ^ 63) % 2 ^ 64 ≡ (b % 128) * 2 ^ 63
shifted_last b le = let small : b % 128 ≡ b = omega arith in rw (and_mask b 7, small) (shl_whole b 1 63 64 (omega arith) (omega arith))

-- the value after a byte, and that it fits
pub record Stepped (bytes : List ℕ) (at value : ℕ) : Type 0 where
  pub is : value + (bit_and (get_or bytes at 0) 127 * 2 ^ (7 * at)) % 2 ^ 64 ≡ groups (take (at + 1) bytes)
  pub fits : value + (bit_and (get_or bytes at 0) 127 * 2 ^ (7 * at)) % 2 ^ 64 < 2 ^ 64

pub pow_le : (i j : ℕ) → i ≤ j → 2 ^ i ≤ 2 ^ j
pow_le i j le = pow-le-pow_right {n = 2} (omega arith) {i = i} {j = j} le

stepped_low : (bytes : List ℕ) (at value : ℕ) → at < length bytes → at ≤ 8 → value ≡ groups (take at bytes) → Stepped bytes at value
stepped_low bytes at value lt few so_far =
    let s = shifted (get_or bytes at 0) at few in
    let m = groups_more bytes at lt in
    let e : value + (bit_and (get_or bytes at 0) 127 * 2 ^ (7 * at)) % 2 ^ 64 ≡ groups (take (at + 1) bytes) = rw (s, m) (ap (λ (v : ℕ). v + (get_or bytes at 0 % 128) * 2 ^ (7 * at)) so_far) in
    let b = groups_below bytes (at + 1) (omega arith) in
    let t = pow_le (7 * (at + 1)) 63 (omega arith) in
    record { is = e; fits = rw e (omega (arith, b, t)) }

stepped_last : (bytes : List ℕ) (value : ℕ) → 9 < length bytes → get_or bytes 9 0 ≤ 1 → value ≡ groups (take 9 bytes) → Stepped bytes 9 value
stepped_last bytes value lt small so_far =
    let s = shifted_last (get_or bytes 9 0) small in
    let m = groups_more bytes 9 lt in
    let e : value + (bit_and (get_or bytes 9 0) 127 * 2 ^ 63) % 2 ^ 64 ≡ groups (take 10 bytes) = rw (s, m) (ap (λ (v : ℕ). v + (get_or bytes 9 0 % 128) * 2 ^ 63) so_far) in
    let b : groups (take 9 bytes) < 2 ^ 63 = groups_below bytes 9 (omega arith) in
    record { is = e; fits = rw (s, so_far) (omega (arith, b)) }

pub stepped : (bytes : List ℕ) (at value : ℕ) → at < length bytes → at ≤ 9 → (at ≡ 9 → get_or bytes at 0 ≤ 1) → value ≡ groups (take at bytes) → Stepped bytes at value
stepped bytes at value lt few small so_far =
    elim (cases_lt at 9) [
      | inl low ↦ stepped_low bytes at value lt (omega arith) so_far
      | inr high ↦
          let nine : at ≡ 9 = omega arith in
          let s : get_or bytes at 0 ≤ 1 = small nine in
          subst (λ (k : ℕ). Stepped bytes k value) (sym nine) (stepped_last bytes value (omega arith) (rw (← nine) s) (rw (← nine) so_far))
    ]

pub few_still : (at b : ℕ) → at ≤ 9 → (at ≡ 9 → b ≤ 1) → 128 ≤ b → at + 1 ≤ 9
few_still at b few small high = elim (cases_lt at 9) [ inl low ↦ omega arith | inr past ↦ absurd (let e : at ≡ 9 = omega arith in let s : b ≤ 1 = small e in omega arith) ]

-- ---- writing

digits : (p r : ℕ) → p * ((r % 128 + 128) % 128) + (128 * p) * (r / 128) ≡ p * r
digits p r =
    let q = r / 128 in
    let m = r % 128 in
    let e : r ≡ 128 * (r / 128) + r % 128 = omega arith in
    let f : (r % 128 + 128) % 128 ≡ r % 128 = omega arith in
    let g : p * (r % 128) + (128 * p) * (r / 128) ≡ p * (128 * (r / 128) + r % 128) = omega arith in
    rw f (g ∙ ap (λ (x : ℕ). p * x) (sym e))

few_put : (p n rest used g : ℕ) → used ≤ 9 → n < 2 ^ 64 → 128 ≤ rest → n ≡ g + 2 ^ (7 * used) * rest → used + 1 ≤ 9
few_put p n rest used g few fits big whole =
    elim (cases_lt used 9) [
      | inl low ↦ omega arith
      | inr past ↦ absurd (let e : used ≡ 9 = omega arith in let w : n ≡ g + 2 ^ 63 * rest = subst (λ (k : ℕ). n ≡ g + 2 ^ (7 * k) * rest) e whole in omega arith)
    ]

whole_put : (buffer : List ℕ) (n rest used : ℕ) → used < length buffer → n ≡ groups (take used buffer) + 2 ^ (7 * used) * rest
    → n ≡ groups (take (used + 1) (set buffer used (rest % 128 + 128))) + 2 ^ (7 * (used + 1)) * (rest / 128)
whole_put buffer n rest used lt whole =
    let len : length (take used buffer) ≡ used = length-take-le used buffer (omega arith) in
    let g = groups_push (take used buffer) (rest % 128 + 128) in
    let s : 2 ^ (7 * (used + 1)) ≡ 128 * 2 ^ (7 * used) = rw add-one (seven_more used) in
    let d = digits (2 ^ (7 * used)) rest in
    rw (take_more_set buffer used (rest % 128 + 128) lt, g, len, s) (omega (arith, d, whole))

high_put : (buffer : List ℕ) (b used : ℕ) → used < length buffer → 128 ≤ b → ((k : ℕ) → k < used → 128 ≤ get_or buffer k 0) → (k : ℕ) → k < used + 1 → 128 ≤ get_or (set buffer used b) k 0
high_put buffer b used lt big high k below =
    elim (cases_lt k used) [
      | inl low ↦ rw (get_or-set_other buffer used k b 0 (λ e. omega arith)) (high k low)
      | inr same ↦ let e : k ≡ used = omega arith in subst (λ (j : ℕ). 128 ≤ get_or (set buffer used b) j 0) (sym e) (rw (get_or-set_same buffer used b 0 lt) big)
    ]

pub record Put (buffer : List ℕ) (n rest used : ℕ) : Type 0 where
  pub size : length buffer ≡ 10
  pub few : used ≤ 9
  pub high : (k : ℕ) → k < used → 128 ≤ get_or buffer k 0
  pub whole : n ≡ groups (take used buffer) + 2 ^ (7 * used) * rest
  pub some : 0 < used → 0 < rest

pub put_on : (buffer : List ℕ) (n rest used : ℕ) → n < 2 ^ 64 → 128 ≤ rest → Put buffer n rest used → Put (set buffer used (rest % 128 + 128)) n (rest / 128) (used + 1)
put_on buffer n rest used fits big p =
    let lt : used < length buffer = omega (arith, p.few, p.size) in
    record { size = rw length-set p.size; few = few_put 0 n rest used (groups (take used buffer)) p.few fits big p.whole; high = high_put buffer (rest % 128 + 128) used lt (omega arith) p.high; whole = whole_put buffer n rest used lt p.whole; some = λ h. omega arith }

-- the bytes that were put, with the last
pub put_all : (buffer : List ℕ) (n rest used : ℕ) → n < 2 ^ 64 → rest < 128 → Put buffer n rest used → IsUleb (take (used + 1) (set buffer used rest)) n (used + 1)
put_all buffer n rest used fits small p =
    let lt : used < length buffer = omega (arith, p.few, p.size) in
    let full : length (take used buffer) ≡ used = length-take-le used buffer (omega arith) in
    let text = take_more_set buffer used rest lt in
    let size : length (take used buffer ++ rest ∷ []) ≡ used + 1 = omega (arith, full, length-append (take used buffer) (rest ∷ [])) in
    let g = groups_push (take used buffer) rest in
    let low : rest % 128 ≡ rest = omega arith in
    let back : used + 1 - 1 ≡ used = omega arith in
    rw text (record {
      begins = omega arith;
      within = omega (arith, size);
      ten = omega (arith, p.few);
      more = λ k below. let k-lt : k < length (take used buffer) = omega (arith, full) in rw (get_or_append_left (take used buffer) (rest ∷ []) 0 k k-lt, get_or-take used buffer k 0 (omega arith)) (p.high k (omega arith));
      last = rw (back, get_or_at (take used buffer) rest [] 0 used full) small;
      number = rw (take_all (used + 1) (take used buffer ++ rest ∷ []) (omega (arith, size)), g, low, full) p.whole;
      fits = fits;
    })

-- no shorter text stands for the number
pub put_shortest : (buffer : List ℕ) (n rest used : ℕ) → Put buffer n rest used → (used + 1 ≡ 1) ⊎ (128 ^ (used + 1 - 1) ≤ n)
put_shortest buffer n rest used p =
    elim (cases_lt 0 used) [
      | inr none ↦ inl (omega arith)
      | inl some ↦
          let low = p.some some in
          let back : used + 1 - 1 ≡ used = omega arith in
          let most : 2 ^ (7 * used) * 1 ≤ 2 ^ (7 * used) * rest = mul-le-mul_left (2 ^ (7 * used)) (omega arith) in
          inr (rw (back, powers used) (omega (arith, most, p.whole)))
    ]
