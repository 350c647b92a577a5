-- What a writer's bytes are: parquet-format, Encodings.md, "Delta Encoding". Of what it leaves open: blocks of 128 deltas in four
-- miniblocks (this store's own choice), the least delta of each block, the least widths, and each varint as short as can be.
use Rattle.std.specs.Prelude.{◌≡◌, ℕ, ◌+◌, ◌-◌, ◌*◌, ◌/◌, ◌^◌, ◌<◌, ◌≤◌, min, All, Contains, List, [], ◌∷◌, ◌++◌, length, take, drop, map, replicate, slice_index, slice_index_or, ℤ, pos, ◌+ℤ◌, ◌-ℤ◌, ◌≤ℤ◌}
use Rattle.std.specs.List.{range_with_len}
use Rattle.std.specs.Int.{Width, int_wrap, byte_len}
use Rattle.bits.specs.Varint.{IsShortestUleb, zigzag_of}
use Rattle.bits.specs.Codec.{InTurn, Appends}
use Rattle.delta.specs.Delta.{AreMiniblocks, most_bytes}

-- the difference from value i to the next, in the bits of the type
abbrev pub delta_at : Width → List ℤ → ℕ → ℤ
delta_at w values i = int_wrap w (slice_index_or values (i + 1) (pos 0) -ℤ slice_index_or values i (pos 0))

-- the differences from value i on, at most 128
abbrev pub deltas_from : Width → List ℤ → ℕ → List ℤ
deltas_from w values i = map (delta_at w values) (range_with_len i (min 128 (length values - 1 - i)))

-- all differences, 128 a block
abbrev pub blocks_of : Width → List ℤ → List (List ℤ)
blocks_of w values = map (λ b. deltas_from w values (128 * b)) (range_with_len 0 ((length values - 1 + 127) / 128))

-- the least of some numbers
pub record IsLeast (numbers : List ℤ) (least : ℤ) : Type 0 where
  pub there : Contains numbers least
  pub below : All (λ z. least ≤ℤ z) numbers

-- the fewest bits that hold each of the numbers: 0 where all are 0
pub record IsLeastWidth (numbers : List ℕ) (width : ℕ) : Type 0 where
  pub enough : All (λ x. x < 2 ^ width) numbers
  pub fewest : (b : ℕ) → All (λ x. x < 2 ^ b) numbers → width ≤ b

-- A block of deltas: the least of them; a width byte for each of four miniblocks, the least width that holds its numbers; and the
-- miniblocks that have a delta. The numbers are what the deltas are above the least one, filled up to 128 with zeros: so the
-- width of a miniblock without deltas is 0.
pub record IsWrittenBlock (w : Width) (bytes : List ℕ) (deltas : List ℤ) (used : ℕ) : Type 0 where
  pub least : ℤ
  pub at : ℕ
  pub numbers : List ℕ
  pub body : ℕ
  pub least_is : IsLeast deltas least
  pub says : IsShortestUleb bytes (zigzag_of least) at
  pub numbers_are : map (λ x. least +ℤ pos x) numbers ≡ deltas ++ replicate (128 - length deltas) least
  pub room : at + 4 ≤ length bytes
  pub widths : (m : ℕ) → m < 4 → IsLeastWidth (take 32 (drop (32 * m) numbers)) (slice_index bytes (at + m))
  pub narrow : (m : ℕ) → m < 4 → slice_index bytes (at + m) ≤ 8 * byte_len w
  pub packed : AreMiniblocks 32 (take ((length deltas + 31) / 32) (take 4 (drop at bytes))) (drop (at + 4) bytes) (take (32 * ((length deltas + 31) / 32)) numbers) body
  pub ends : used ≡ at + 4 + body

-- values of w bits as a writer writes them: the header, with 0 for the first value where there is none, and the blocks
pub record IsWrittenDelta (w : Width) (values : List ℤ) (bytes : List ℕ) (used : ℕ) : Type 0 where
  pub at : ℕ
  pub body : ℕ
  pub header : InTurn IsShortestUleb bytes (128 ∷ 4 ∷ length values ∷ zigzag_of (slice_index_or values 0 (pos 0)) ∷ []) at
  pub blocks : InTurn (IsWrittenBlock w) (drop at bytes) (blocks_of w values) body
  pub ends : used ≡ at + body

-- values are written at the end as differences, as a writer writes them
abbrev pub AppendsWrittenDelta : Width → List ℤ → List ℕ → List ℕ → Type 0
AppendsWrittenDelta w values old new = Appends (IsWrittenDelta w values) (most_bytes w (length values)) old new
