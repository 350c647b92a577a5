-- Which values stand in the value section of a page: parquet.thrift, Encoding; parquet-format, Encodings.md.
use Rattle.std.specs.Prelude.{◌≡◌, ℕ, ℤ, pos, ◌^◌, ◌<◌, Bool, List, ◌++◌, map, length, Option, Some, None, if◌then◌else◌}
use Rattle.std.specs.Int.{Width, w32, w64, from_bool}
use Rattle.std.specs.Ordering.{int_eq}
use Rattle.byteorder.specs.Endian.{little_bytes}
use Rattle.hybrid_rle.specs.Hybrid.{IsHybrid}
use Rattle.delta.specs.Delta.{IsDelta}
use Rattle.delta.specs.ByteDeltas.{IsByteLengths, IsPrefixed as IsSharedPrefixes, StandForBytes}
use Rattle.dictionary.specs.IndexPages.{AreIndexed}
use Rattle.schema.specs.declared.value.Kind.{Kind}
use Rattle.schema.specs.declared.value.Kind.TheVariants.{Boolean, Int32, Int64, ByteArray, FixedLenByteArray}
use Rattle.schema.specs.Values.{ValueTree, boolean, integer}
use Rattle.plain.specs.Plain.{IsPlain}
use Rattle.plain.specs.Split.{IsSplit}
use Rattle.pages.specs.declared.encoding.Encoding.{Encoding}
use Rattle.pages.specs.declared.encoding.Encoding.TheVariants.{Plain, PlainDictionary, Rle, BitPacked, DeltaBinaryPacked, DeltaLengthByteArray, DeltaByteArray, RleDictionary, ByteStreamSplit}

-- the encoding that a number names
abbrev pub encoding_of : ℤ → Option Encoding
encoding_of z =
    if int_eq z (pos 0) then Some Plain
    else if int_eq z (pos 2) then Some PlainDictionary
    else if int_eq z (pos 3) then Some Rle
    else if int_eq z (pos 4) then Some BitPacked
    else if int_eq z (pos 5) then Some DeltaBinaryPacked
    else if int_eq z (pos 6) then Some DeltaLengthByteArray
    else if int_eq z (pos 7) then Some DeltaByteArray
    else if int_eq z (pos 8) then Some RleDictionary
    else if int_eq z (pos 9) then Some ByteStreamSplit
    else None

-- PLAIN values stand at the front of the text; bytes behind them are left
abbrev pub ArePlain : Kind → List ℕ → List ValueTree → Type 0
ArePlain kind text values = (used : ℕ) × IsPlain kind (length values) text values used

-- a length in four bytes, the lowest first, that many bytes, and the rest
pub record IsPrefixed (text inside rest : List ℕ) : Type 0 where
  pub short : length inside < 2 ^ 32
  pub joined : text ≡ little_bytes 4 (length inside) ++ inside ++ rest

-- Booleans by RLE, in both versions of pages: after its length in four bytes the hybrid of width 1, where 1 is true.
-- (Encodings.md, "Run Length Encoding / Bit-Packing Hybrid".)
pub record AreRleBooleans (text : List ℕ) (values : List ValueTree) : Type 0 where
  pub bools : List Bool
  pub inside : List ℕ
  pub rest : List ℕ
  pub used : ℕ
  pub are : values ≡ map boolean bools
  pub prefixed : IsPrefixed text inside rest
  pub packed : IsHybrid 1 inside (length bools) (map from_bool bools) used

-- indexes into a dictionary with these entries, and for each its entry; bytes after them are left
abbrev pub AreOfDictionary : List ValueTree → List ℕ → List ValueTree → Type 0
AreOfDictionary entries text values = (used : ℕ) × AreIndexed entries text (length values) values used

-- numbers as differences of so many bits (Encodings.md, "Delta Encoding")
abbrev pub AreDeltas : Width → List ℕ → List ValueTree → Type 0
AreDeltas w text values = (numbers : List ℤ) × (used : ℕ) × (values ≡ map integer numbers) × IsDelta w text (length numbers) numbers used

-- byte values by their lengths (Encodings.md, "Delta-length byte array")
abbrev pub AreByLengths : List ℕ → List ValueTree → Type 0
AreByLengths text values = (used : ℕ) × StandForBytes (IsByteLengths text (length values)) values used

-- byte values by what they share with the value before (Encodings.md, "Delta Strings")
abbrev pub AreByPrefixes : List ℕ → List ValueTree → Type 0
AreByPrefixes text values = (used : ℕ) × StandForBytes (IsSharedPrefixes text (length values)) values used

-- values whose bytes stand apart, in streams (Encodings.md, "Byte Stream Split")
abbrev pub AreSplit : Kind → List ℕ → List ValueTree → Type 0
AreSplit kind text values = (used : ℕ) × IsSplit kind (length values) text values used

-- The table of encodings: the values of a leaf of this type stand in the text, in a chunk that has this dictionary.
-- What has no line has no values.
abbrev pub AreValues : Option (List ValueTree) → Kind → Option Encoding → List ℕ → List ValueTree → Type 0
AreValues dictionary kind (Some Plain) text values = ArePlain kind text values
AreValues dictionary Boolean (Some Rle) text values = AreRleBooleans text values
AreValues (Some entries) kind (Some PlainDictionary) text values = AreOfDictionary entries text values
AreValues (Some entries) kind (Some RleDictionary) text values = AreOfDictionary entries text values
AreValues dictionary Int32 (Some DeltaBinaryPacked) text values = AreDeltas w32 text values
AreValues dictionary Int64 (Some DeltaBinaryPacked) text values = AreDeltas w64 text values
AreValues dictionary ByteArray (Some DeltaLengthByteArray) text values = AreByLengths text values
AreValues dictionary ByteArray (Some DeltaByteArray) text values = AreByPrefixes text values
AreValues dictionary (FixedLenByteArray n) (Some DeltaByteArray) text values = AreByPrefixes text values
AreValues dictionary kind (Some ByteStreamSplit) text values = AreSplit kind text values
AreValues dictionary kind encoding text values = ⊥
