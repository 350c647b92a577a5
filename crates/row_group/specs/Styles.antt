-- Which encodings a chunk is written in: parquet.thrift, Encoding; parquet-format, Encodings.md. The choice is the store's own.
use Rattle.std.specs.Prelude.{◌≡◌, ◌≢◌, ℕ, ◌<◌, ℤ, pos, List, [], ◌∷◌, length}
use Rattle.schema.specs.declared.value.Kind.{Kind}
use Rattle.schema.specs.declared.value.Kind.TheVariants.{Boolean, Int32, Int64, ByteArray, FixedLenByteArray}
use Rattle.schema.specs.Stripe.{Entry}
use Rattle.dictionary.specs.Entries.{AreMoreThan}
use Rattle.pages.specs.Page.{values}
use Rattle.pages.specs.Headers.{number_of}
use Rattle.pages.specs.declared.encoding.Encoding.{Encoding}
use Rattle.pages.specs.declared.encoding.Encoding.TheVariants.{Plain, Rle, DeltaBinaryPacked, DeltaLengthByteArray, DeltaByteArray, ByteStreamSplit}
use Rattle.row_group.specs.declared.options.Style.{Style}
use Rattle.row_group.specs.declared.options.Style.TheVariants as style

-- the encoding of a chunk's values under a style, where the chunk has no dictionary
abbrev pub encoding_of : Style → Kind → Encoding
encoding_of style.Delta Boolean = Rle
encoding_of style.Delta Int32 = DeltaBinaryPacked
encoding_of style.Delta Int64 = DeltaBinaryPacked
encoding_of style.Delta ByteArray = DeltaByteArray
encoding_of style.Delta (FixedLenByteArray n) = DeltaByteArray
encoding_of style.Lengths Boolean = Rle
encoding_of style.Lengths Int32 = DeltaBinaryPacked
encoding_of style.Lengths Int64 = DeltaBinaryPacked
encoding_of style.Lengths ByteArray = DeltaLengthByteArray
encoding_of style.Lengths (FixedLenByteArray n) = Plain
encoding_of style.Split Boolean = Rle
encoding_of style.Split Int32 = ByteStreamSplit
encoding_of style.Split Int64 = ByteStreamSplit
encoding_of style.Split ByteArray = Plain
encoding_of style.Split (FixedLenByteArray n) = ByteStreamSplit
encoding_of s kind = Plain

-- These entries suit a dictionary: the style asks for one, the values are not BOOLEAN, there are some, and at most 65,536 different ones.
pub record SuitsDictionary (s : Style) (kind : Kind) (es : List Entry) : Type 0 where
  pub style : s ≡ style.Dictionary
  pub not_boolean : kind ≢ Boolean
  pub some : 0 < length (values es)
  pub few : AreMoreThan 65536 (values es) → ⊥

-- The chunk of these entries, which starts at this offset of its file, has a dictionary. At offset 0, where no file has a chunk, it has
-- none: a record cannot say that the page of a dictionary is there.
pub record HasDictionary (s : Style) (kind : Kind) (start : ℕ) (es : List Entry) : Type 0 where
  pub suits : SuitsDictionary s kind es
  pub begun : 0 < start

-- the encodings of a chunk's values and of its levels, which are RLE, as numbers, rising, each once
abbrev pub numbers_with_levels : Encoding → List ℤ
numbers_with_levels Plain = pos 0 ∷ pos 3 ∷ []
numbers_with_levels Rle = pos 3 ∷ []
numbers_with_levels encoding = pos 3 ∷ pos (number_of encoding) ∷ []
