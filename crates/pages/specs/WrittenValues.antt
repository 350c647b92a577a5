-- Values as they are written in an encoding: parquet.thrift, Encoding; parquet-format, Encodings.md.
use Rattle.std.specs.Prelude.{◌≡◌, ℕ, ◌+◌, ℤ, Bool, List, map, length}
use Rattle.std.specs.Int.{Width, w32, w64, from_bool}
use Rattle.hybrid_rle.specs.Hybrid.{IsHybrid}
use Rattle.delta.specs.Delta.{IsDelta}
use Rattle.delta.specs.ByteDeltas.{IsByteLengths, IsPrefixed as IsSharedPrefixes, StandForBytes}
use Rattle.delta.specs.Written.{IsWrittenDelta}
use Rattle.delta.specs.WrittenBytes.{IsWrittenLengths, IsWrittenPrefixes}
use Rattle.dictionary.specs.IndexPages.{IsWrittenIndexPage}
use Rattle.schema.specs.declared.value.Kind.{Kind}
use Rattle.schema.specs.declared.value.Kind.TheVariants.{Boolean, Int32, Int64, ByteArray, FixedLenByteArray}
use Rattle.schema.specs.Values.{ValueTree, boolean, integer}
use Rattle.plain.specs.Plain.{IsPlain, HasZeroPadding}
use Rattle.plain.specs.Split.{IsSplit}
use Rattle.pages.specs.declared.encoding.Encoding.{Encoding}
use Rattle.pages.specs.declared.encoding.Encoding.TheVariants.{Plain, Rle, DeltaBinaryPacked, DeltaLengthByteArray, DeltaByteArray, ByteStreamSplit}
use Rattle.pages.specs.Encodings.{IsPrefixed}

-- booleans by RLE: a length in four bytes, and that many bytes of the hybrid of width 1, which fills them
pub record AreBooleansIn (values : List ValueTree) (bytes : List ℕ) (used : ℕ) : Type 0 where
  pub bools : List Bool
  pub inside : List ℕ
  pub rest : List ℕ
  pub are : values ≡ map boolean bools
  pub prefixed : IsPrefixed bytes inside rest
  pub packed : IsHybrid 1 inside (length bools) (map from_bool bools) (length inside)
  pub ends : used ≡ 4 + length inside

-- Numbers as differences of so many bits: the bytes stand for them, and are those that the store writes, in blocks of 128 with the least
-- delta and the least widths.
pub record AreDeltasIn (w : Width) (values : List ValueTree) (bytes : List ℕ) (used : ℕ) : Type 0 where
  pub numbers : List ℤ
  pub are : values ≡ map integer numbers
  pub stand : IsDelta w bytes (length numbers) numbers used
  pub written : IsWrittenDelta w numbers bytes used

-- byte values by their lengths: the bytes stand for them, and are those that the store writes
pub record AreLengthsIn (values : List ValueTree) (bytes : List ℕ) (used : ℕ) : Type 0 where
  pub stand : StandForBytes (IsByteLengths bytes (length values)) values used
  pub written : StandForBytes (IsWrittenLengths bytes) values used

-- byte values by the prefixes that they share: the bytes stand for them, and are those that the store writes, with the longest prefixes
pub record ArePrefixesIn (values : List ValueTree) (bytes : List ℕ) (used : ℕ) : Type 0 where
  pub stand : StandForBytes (IsSharedPrefixes bytes (length values)) values used
  pub written : StandForBytes (IsWrittenPrefixes bytes) values used

-- The values in an encoding that fits their type, in exactly `used` bytes; the bits after the last PLAIN boolean are 0, and differences,
-- lengths and prefixes are written in the one way that `delta` writes them.
abbrev pub AreWritten : Kind → Encoding → List ValueTree → List ℕ → ℕ → Type 0
AreWritten kind Plain values bytes used = IsPlain kind (length values) bytes values used × HasZeroPadding kind (length values) bytes used
AreWritten Boolean Rle values bytes used = AreBooleansIn values bytes used
AreWritten Int32 DeltaBinaryPacked values bytes used = AreDeltasIn w32 values bytes used
AreWritten Int64 DeltaBinaryPacked values bytes used = AreDeltasIn w64 values bytes used
AreWritten ByteArray DeltaLengthByteArray values bytes used = AreLengthsIn values bytes used
AreWritten ByteArray DeltaByteArray values bytes used = ArePrefixesIn values bytes used
AreWritten (FixedLenByteArray n) DeltaByteArray values bytes used = ArePrefixesIn values bytes used
AreWritten kind ByteStreamSplit values bytes used = IsSplit kind (length values) bytes values used
AreWritten kind encoding values bytes used = ⊥

-- values that fill these bytes
abbrev pub AreValuesIn : Kind → Encoding → List ValueTree → List ℕ → Type 0
AreValuesIn kind encoding values text = AreWritten kind encoding values text (length text)

-- indexes into a dictionary with so many entries, which fill these bytes
abbrev pub AreIndexesIn : ℕ → List ℕ → List ℕ → Type 0
AreIndexesIn size indexes text = IsWrittenIndexPage size text (length indexes) indexes (length text)
