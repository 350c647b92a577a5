-- What writing blocks gives: parquet-format, Encodings.md, "Delta Encoding".
use Rattle.std.specs.Prelude.{◌≡◌, ℕ, ◌+◌, ◌-◌, ◌*◌, ◌/◌, min, List, [], ◌∷◌, ◌++◌, length, map, take, replicate, slice_index, slice_index_or, ◌<◌, ◌≤◌, ℤ, pos, ◌+ℤ◌}
use Rattle.std.specs.Int.{Width, w32, int_wrap, byte_len}
use Rattle.bits.specs.Codec.{Appends}
use Rattle.schema.specs.Values.{ValueTree, bytes}
use Rattle.plain.specs.Plain.{text_size}
use Rattle.delta.specs.Delta.{IsBlock, IsDelta, AreMiniblocks}
use Rattle.delta.specs.Written.{deltas_from, IsLeast, IsWrittenBlock, AppendsWrittenDelta}
use Rattle.delta.specs.WrittenBytes.{AppendsWrittenLengths}
use Rattle.delta.specs.ByteDeltas.{IsByteLengths, StandForBytes}
use Rattle.delta.specs.inner.Taken.{Adds, deltas_of}

-- only the end is new
abbrev pub Extends : List ℕ → List ℕ → Type 0
Extends old new = (text : List ℕ) × (new ≡ old ++ text)

-- how many of the values from index `at` on a block has
abbrev pub block_count : List ℤ → ℕ → ℕ
block_count values at = min (length values - at) 128

-- the packed numbers of a block lead to its values
abbrev pub AddsBlock : Width → List ℤ → ℕ → ℤ → List ℕ → Type 0
AddsBlock w values at least numbers =
    Adds w (deltas_of least (take (block_count values at) numbers)) (take at values) (take (at + block_count values at) values)

-- the packed numbers of a block are what its deltas are above the least one, where it is the least, and zeros after them
abbrev pub ExceedsLeast : Width → List ℤ → ℕ → ℤ → List ℕ → Type 0
ExceedsLeast w values at least numbers = let deltas = deltas_from w values (at - 1) in
    int_wrap w least ≡ least → IsLeast deltas least → map (λ x. least +ℤ pos x) numbers ≡ deltas ++ replicate (128 - length deltas) least

-- each of four widths is at most so many bytes
abbrev pub AreWithin : ℕ → List ℕ → Type 0
AreWithin most widths = (m : ℕ) → m < 4 → slice_index widths m ≤ 8 * most

-- the first miniblocks of these widths stand at the end
abbrev pub AppendsMiniblocks : ℕ → List ℕ → List ℕ → ℕ → List ℕ → List ℕ → Type 0
AppendsMiniblocks needed widths numbers most old new =
    Appends (λ bytes used. AreMiniblocks 32 (take needed widths) bytes (take (32 * needed) numbers) used) (32 * most * needed) old new

-- a block stands at the end whose deltas lead to the values from index `at` on
pub record PutDeltas (w : Width) (values : List ℤ) (at : ℕ) (old new : List ℕ) : Type 0 where
  pub deltas : List ℤ
  pub stands : Appends (λ bytes used. IsBlock 4 32 ((block_count values at + 31) / 32) bytes deltas used) (14 + 32 * byte_len w * ((block_count values at + 31) / 32)) old new
  pub count : length deltas ≡ 32 * ((block_count values at + 31) / 32)
  pub added : Adds w (take (block_count values at) deltas) (take at values) (take (at + block_count values at) values)

-- the block of the deltas that lead to the values from index `at` on stands at the end
abbrev pub PutBlock : Width → List ℤ → ℕ → List ℕ → List ℕ → Type 0
PutBlock w values at old new = Appends (λ bytes. IsWrittenBlock w bytes (deltas_from w values (at - 1))) (14 + 32 * byte_len w * ((block_count values at + 31) / 32)) old new

-- the bytes of a byte value
abbrev pub text_of : ValueTree → List ℕ
text_of (bytes text) = text
text_of _ = []

-- the value before the one at index i, which is empty for the first
abbrev pub before_at : List (List ℕ) → ℕ → List ℕ
before_at texts i = slice_index_or ([] ∷ texts) i []

-- prefix lengths stand at the end, and suffixes by their lengths after them
pub record ArePut (prefixes : List ℤ) (suffixes : List ValueTree) (old new : List ℕ) : Type 0 where
  pub mid : List ℕ
  pub first : Appends (λ bytes. IsDelta w32 bytes (length prefixes) prefixes) (170 + 5 * length prefixes) old mid
  pub first_written : AppendsWrittenDelta w32 prefixes old mid
  pub second_written : AppendsWrittenLengths suffixes mid new
  pub second : Appends (λ bytes. StandForBytes (IsByteLengths bytes (length suffixes)) suffixes) (170 + 5 * length suffixes + text_size suffixes) mid new
