-- Numbers as differences, packed in blocks of miniblocks: parquet-format, Encodings.md, "Delta Encoding" (DELTA_BINARY_PACKED).
use Rattle.std.specs.Prelude.{◌≡◌, ℕ, ◌+◌, ◌-◌, ◌*◌, ◌%◌, ◌<◌, ◌≤◌, min, List, [], ◌∷◌, ◌++◌, length, take, drop, map, ℤ, pos, ◌+ℤ◌}
use Rattle.std.specs.List.{range_with_len}
use Rattle.std.specs.Int.{Width, int_wrap, byte_len}
use Rattle.bits.specs.Bits.{IsPacked}
use Rattle.bits.specs.Varint.{IsUleb, zigzag_of}
use Rattle.bits.specs.Codec.{InTurn, Appends}

-- the sum of signed numbers
abbrev pub total : List ℤ → ℤ
total [] = pos 0
total (z ∷ zs) = z +ℤ total zs

-- the lists of deltas as one
abbrev pub joined : List (List ℤ) → List ℤ
joined [] = []
joined (deltas ∷ blocks) = deltas ++ joined blocks

-- a miniblock: `size` packed numbers of `width` bits each
pub record IsMiniblock (size width : ℕ) (bytes numbers : List ℕ) (used : ℕ) : Type 0 where
  pub wide : width ≤ 64
  pub count : length numbers ≡ size
  pub packed : IsPacked bytes width numbers
  pub ends : 8 * used ≡ size * width

-- miniblocks of these widths, one after the other
abbrev pub AreMiniblocks : ℕ → List ℕ → List ℕ → List ℕ → ℕ → Type 0
AreMiniblocks size [] bytes numbers used = (numbers ≡ []) × (used ≡ 0)
AreMiniblocks size (width ∷ widths) bytes numbers used = (here : List ℕ) × (others : List ℕ) × (u : ℕ) × (v : ℕ)
    × IsMiniblock size width bytes here u × AreMiniblocks size widths (drop u bytes) others v × (numbers ≡ here ++ others) × (used ≡ u + v)

-- A block: its least delta, a width byte for each of its miniblocks, and the first `needed` of the miniblocks.
-- The others have a width byte, whatever it is, and nothing more.
pub record IsBlock (miniblocks size needed : ℕ) (bytes : List ℕ) (deltas : List ℤ) (used : ℕ) : Type 0 where
  pub least : ℤ
  pub at : ℕ
  pub numbers : List ℕ
  pub body : ℕ
  pub says : IsUleb bytes (zigzag_of least) at
  pub widths : at + miniblocks ≤ length bytes
  pub packed : AreMiniblocks size (take needed (take miniblocks (drop at bytes))) (drop (at + miniblocks) bytes) numbers body
  pub stands_for : deltas ≡ map (λ x. least +ℤ pos x) numbers
  pub ends : used ≡ at + miniblocks + body

-- blocks, one after the other, with `needed` miniblocks in all; each block but the last has all of its own
abbrev pub AreBlocks : ℕ → ℕ → ℕ → List ℕ → List (List ℤ) → ℕ → Type 0
AreBlocks miniblocks size needed bytes [] used = (needed ≡ 0) × (used ≡ 0)
AreBlocks miniblocks size needed bytes (deltas ∷ blocks) used = (u : ℕ) × (v : ℕ) × (0 < needed)
    × IsBlock miniblocks size (min miniblocks needed) bytes deltas u × AreBlocks miniblocks size (needed - miniblocks) (drop u bytes) blocks v × (used ≡ u + v)

-- the header, four varints: how many values a block has, how many miniblocks it has, how many values there are, and the first value
pub record IsHeader (bytes : List ℕ) (miniblocks size n : ℕ) (first : ℤ) (used : ℕ) : Type 0 where
  pub says : InTurn IsUleb bytes (miniblocks * size ∷ miniblocks ∷ n ∷ zigzag_of first ∷ []) used
  pub some : 0 < miniblocks * size
  pub whole : miniblocks * size % 128 ≡ 0
  pub whole_parts : size % 32 ≡ 0

-- value i of n: the first value and the first i deltas, added up in the bits of the type
abbrev pub sums : Width → ℤ → List ℤ → ℕ → List ℤ
sums w first deltas n = map (λ i. int_wrap w (first +ℤ total (take i deltas))) (range_with_len 0 n)

-- n values of w bits stand at the front, in as few miniblocks as have a delta for each value after the first
pub record IsDelta (w : Width) (bytes : List ℕ) (n : ℕ) (values : List ℤ) (used : ℕ) : Type 0 where
  pub miniblocks : ℕ
  pub size : ℕ
  pub needed : ℕ
  pub first : ℤ
  pub blocks : List (List ℤ)
  pub at : ℕ
  pub body : ℕ
  pub begins : IsHeader bytes miniblocks size n first at
  pub enough : n ≤ needed * size + 1
  pub fewest : (k : ℕ) → k < needed → k * size + 1 < n
  pub spelled : AreBlocks miniblocks size needed (drop at bytes) blocks body
  pub stands_for : values ≡ sums w first (joined blocks) n
  pub ends : used ≡ at + body

-- how many bytes n numbers take at most
abbrev pub most_bytes : Width → ℕ → ℕ
most_bytes w n = 42 + 32 * byte_len w + (byte_len w + 1) * n

-- numbers are written at the end, and the bytes stand for them whatever follows
abbrev pub AppendsDelta : Width → List ℤ → List ℕ → List ℕ → Type 0
AppendsDelta w values old new = Appends (λ bytes. IsDelta w bytes (length values) values) (most_bytes w (length values)) old new
