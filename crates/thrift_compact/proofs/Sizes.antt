-- How long shortest varints and headers are.
use Rattle.std.proofs.Common.{◌≡◌, ◌⊎◌, ℕ, zero, suc, ◌+◌, ◌-◌, ◌^◌, ◌<◌, ◌≤◌, List, refl, arith, inl, inr}
use Rattle.std.specs.Prelude.{ℤ, pos, negsuc, FitsSigned, nat_le, if◌then◌else◌, Bool, true, false}
use Rattle.std.specs.Int.{w16, w32}
use Rattle.std.proofs.lemmas.Bool.{cases_lt}
use Rattle.std.proofs.lemmas.Bool.Decides.{nat_tests}
use Rattle.std.proofs.Math.Nat.{pow-le-pow_right}
use Rattle.bits.specs.Varint.{IsShortestUleb, zigzag_of}
use Rattle.thrift_compact.specs.Length.{size_varint, size_length, size_i16, size_i32, size_list_head}

pub if_false : (b : Bool) (x y : ℕ) → b ≡ false → (if b then x else y) ≡ y
if_false true x y e = absurd (cc)
if_false false x y e = refl

pub if_true : (b : Bool) (x y : ℕ) → b ≡ true → (if b then x else y) ≡ x
if_true true x y e = refl
if_true false x y e = absurd (cc)

pub uleb_short : (bytes : List ℕ) (n u k : ℕ) → 1 ≤ k → n < 128 ^ k → IsShortestUleb bytes n u → u ≤ k
uleb_short bytes n u k some small p = go p.shortest
  where
    go : (u ≡ 1) ⊎ (128 ^ (u - 1) ≤ n) → u ≤ k
    go (inl e) = omega arith
    go (inr le) = elim (cases_lt k u) [
      | inl lt ↦
          let below : k ≤ u - 1 = omega arith in
          let mono = pow-le-pow_right {n = 128} (omega arith) {i = k} {j = u - 1} below in
          absurd (omega (arith, mono, le, small))
      | inr ge ↦ ge
    ]

pub short_fits : (z : ℤ) → FitsSigned w16 z → zigzag_of z < 128 ^ 3
short_fits (pos n) p = omega (arith, p.sfits)
short_fits (negsuc n) p = omega (arith, p.sfits)

pub int_fits : (z : ℤ) → FitsSigned w32 z → zigzag_of z < 128 ^ 5
int_fits (pos n) p = omega (arith, p.sfits)
int_fits (negsuc n) p = omega (arith, p.sfits)

-- one group more, or not
more_groups : (k n : ℕ) → 128 ^ k ≤ n → size_varint (suc k) n ≡ suc k
unfolding size_varint
more_groups k n le = let test : nat_le (128 ^ k) n ≡ true = grind (arith, nat_tests) in if_true (nat_le (128 ^ k) n) (suc k) (size_varint k n) test

no_more_groups : (k n : ℕ) → n < 128 ^ k → size_varint (suc k) n ≡ size_varint k n
unfolding size_varint
no_more_groups k n lt = let test : nat_le (128 ^ k) n ≡ false = grind (arith, nat_tests) in if_false (nat_le (128 ^ k) n) (suc k) (size_varint k n) test

no_groups : (n : ℕ) → size_varint zero n ≡ 1
unfolding size_varint
no_groups n = refl

pub some_size : (k n : ℕ) → 1 ≤ size_varint k n
some_size zero n = omega (arith, no_groups n)
some_size (suc k) n = elim (cases_lt n (128 ^ k)) [
  | inl lt ↦ omega (arith, no_more_groups k n lt, some_size k n)
  | inr ge ↦ omega (arith, more_groups k n ge)
]

-- a number of at most so many groups
pub size_at_most : (k n : ℕ) → 1 ≤ k → size_varint k n ≤ k
size_at_most zero n some = absurd (omega arith)
size_at_most (suc zero) n some = elim (cases_lt n (128 ^ zero)) [
  | inl lt ↦ omega (arith, no_more_groups zero n lt, no_groups n)
  | inr ge ↦ omega (arith, more_groups zero n ge)
]
size_at_most (suc (suc k)) n some = elim (cases_lt n (128 ^ (suc k))) [
  | inl lt ↦ omega (arith, no_more_groups (suc k) n lt, size_at_most (suc k) n (omega arith))
  | inr ge ↦ omega (arith, more_groups (suc k) n ge)
]

-- a shortest varint is no longer
fewest : (k n u : ℕ) → u ≤ k → (u ≡ 1) ⊎ (128 ^ (u - 1) ≤ n) → u ≤ size_varint k n
fewest zero n u le s = omega (arith, no_groups n)
fewest (suc k) n u le (inl one) = omega (arith, some_size (suc k) n)
fewest (suc k) n u le (inr high) = elim (cases_lt n (128 ^ k)) [
  | inl lt ↦
      elim (cases_lt k u) [
        | inl last ↦ let is : u - 1 ≡ k = omega arith in let over : 128 ^ k ≤ n = rw is at high in absurd (omega (arith, over, lt))
        | inr below ↦ omega (arith, no_more_groups k n lt, fewest k n u below (inr high))
      ]
  | inr ge ↦ omega (arith, more_groups k n ge)
]

-- and no varint of the number is shorter
pub size_below : (k n u : ℕ) → 1 ≤ u → n < 128 ^ u → size_varint k n ≤ u
size_below zero n u some lt = omega (arith, no_groups n)
size_below (suc k) n u some lt = elim (cases_lt n (128 ^ k)) [
  | inl less ↦ omega (arith, no_more_groups k n less, size_below k n u some lt)
  | inr ge ↦
      elim (cases_lt k u) [
        | inl fits ↦ omega (arith, more_groups k n ge, fits)
        | inr over ↦
            let mono = pow-le-pow_right {n = 128} (omega arith) {i = u} {j = k} over in
            absurd (omega (arith, mono, ge, lt))
      ]
]

pub length_size : (bytes : List ℕ) (n u : ℕ) → IsShortestUleb bytes n u → u ≤ size_length n
length_size bytes n u p = fewest 10 n u p.spelled.ten p.shortest

pub short_size : (bytes : List ℕ) (z : ℤ) (u : ℕ) → FitsSigned w16 z → IsShortestUleb bytes (zigzag_of z) u → u ≤ size_i16 z
short_size bytes z u fits p = fewest 3 (zigzag_of z) u (uleb_short bytes (zigzag_of z) u 3 (omega arith) (short_fits z fits) p) p.shortest

pub int_size : (bytes : List ℕ) (z : ℤ) (u : ℕ) → FitsSigned w32 z → IsShortestUleb bytes (zigzag_of z) u → u ≤ size_i32 z
int_size bytes z u fits p = fewest 5 (zigzag_of z) u (uleb_short bytes (zigzag_of z) u 5 (omega arith) (int_fits z fits) p) p.shortest

pub long_list_head : (n : ℕ) → 14 < n → size_list_head n ≡ 1 + size_length n
long_list_head n more = let test : nat_le n 14 ≡ false = grind (arith, nat_tests) in if_false (nat_le n 14) 1 (1 + size_length n) test
