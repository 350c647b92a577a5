-- Bytes as one list of bits: parquet-format, Encodings.md, "Run Length Encoding / Bit-Packing Hybrid", the bit-packed runs.
use Rattle.std.specs.Prelude.{◌≡◌, ℕ, ◌+◌, ◌*◌, ◌/◌, ◌%◌, ◌<◌, ◌≤◌, List, [], ◌∷◌, length, slice_index, slice_range}

-- the bits of bytes, lowest first
abbrev pub bits : List ℕ → List ℕ
bits [] = []
bits (b ∷ bytes) = (b % 2) ∷ (b / 2 % 2) ∷ (b / 4 % 2) ∷ (b / 8 % 2) ∷ (b / 16 % 2) ∷ (b / 32 % 2) ∷ (b / 64 % 2) ∷ (b / 128 % 2) ∷ bits bytes

-- the number of bits, lowest first
abbrev pub number : List ℕ → ℕ
number [] = 0
number (b ∷ bs) = b + 2 * number bs

-- number i of width w is the number of the bits from i * w up to (i + 1) * w
pub record IsPacked (bytes : List ℕ) (w : ℕ) (numbers : List ℕ) : Type 0 where
  pub within : length numbers * w ≤ 8 * length bytes
  pub each : (i : ℕ) → i < length numbers → slice_index numbers i ≡ number (slice_range (bits bytes) (i * w) ((i + 1) * w))

-- the bytes that hold n numbers of w bits each
abbrev pub packed_size : ℕ → ℕ → ℕ
packed_size n w = (n * w + 7) / 8

-- the first `used` bytes hold the numbers and no more, and the bits after the last number are 0
pub record IsPadded (bytes : List ℕ) (w : ℕ) (numbers : List ℕ) (used : ℕ) : Type 0 where
  pub packed : IsPacked bytes w numbers
  pub least : used ≡ packed_size (length numbers) w
  pub padding : (i : ℕ) → length numbers * w ≤ i → i < 8 * used → slice_index (bits bytes) i ≡ 0
