-- Unsigned varints and zigzag numbers: Thrift's compact protocol, "Integer encoding".
use Rattle.std.specs.Prelude.{◌≡◌, ℕ, ◌+◌, ◌-◌, ◌*◌, ◌%◌, ◌^◌, ◌<◌, ◌≤◌, ◌⊎◌, List, [], ◌∷◌, length, take, slice_index, ℤ, pos, negsuc}

-- the number of groups of seven bits, lowest first
abbrev pub groups : List ℕ → ℕ
groups [] = 0
groups (b ∷ bytes) = b % 128 + 128 * groups bytes

-- the first `used` bytes are a varint of n: the high bit is set on all but the last, and n has 64 bits
pub record IsUleb (bytes : List ℕ) (n used : ℕ) : Type 0 where
  pub begins : 0 < used
  pub within : used ≤ length bytes
  pub ten : used ≤ 10
  pub more : (k : ℕ) → k + 1 < used → 128 ≤ slice_index bytes k
  pub last : slice_index bytes (used - 1) < 128
  pub number : n ≡ groups (take used bytes)
  pub fits : n < 2 ^ 64

-- no varint is shorter: only one byte's number has a last group of zero
pub record IsShortestUleb (bytes : List ℕ) (n used : ℕ) : Type 0 where
  pub spelled : IsUleb bytes n used
  pub shortest : (used ≡ 1) ⊎ (128 ^ (used - 1) ≤ n)

-- the bytes end within a varint that may still become one
pub record IsCutUleb (bytes : List ℕ) : Type 0 where
  pub few : length bytes < 10
  pub more : (k : ℕ) → k < length bytes → 128 ≤ slice_index bytes k

-- the index of a signed number in 0, -1, 1, -2, 2 and so on
abbrev pub zigzag_of : ℤ → ℕ
zigzag_of (pos n) = 2 * n
zigzag_of (negsuc n) = 2 * n + 1
