-- Where a page goes beyond a limit, and what pages are refused for.
use Rattle.std.specs.Prelude.{◌≡◌, ℕ, ◌==◌, pos, List, filter, length, Option, Some}
use Rattle.bits.specs.declared.refusal.Refusal.{Refusal}
use Rattle.bits.specs.declared.refusal.Refusal.TheVariants.{Truncated, Thrift, Encoding as EncodingFault, Page as PageFault, Levels, Value, Utf8, Limit}
use Rattle.schema.specs.declared.value.Kind.{Kind}
use Rattle.schema.specs.declared.value.Kind.TheVariants.{ByteArray, FixedLenByteArray}
use Rattle.schema.specs.Stripe.{Leaf}
use Rattle.metadata.specs.Records.{PageHeader, DataPageHeader, DictionaryPageHeader, DataPageHeaderV2}
use Rattle.plain.specs.Plain.{IsReadOver}
use Rattle.plain.specs.Split.{IsSplitReadOver}
use Rattle.delta.specs.ByteDeltas.{IsLengthsOver, IsPrefixesOver}
use Rattle.pages.specs.declared.encoding.Encoding.{Encoding}
use Rattle.pages.specs.declared.encoding.Encoding.TheVariants.{Plain, DeltaLengthByteArray, DeltaByteArray, ByteStreamSplit}
use Rattle.pages.specs.Encodings.{encoding_of}
use Rattle.pages.specs.Page.{AreLevelsV1, AreLevelsV2, IsEncodingOfDictionary, IsFramed}

-- One of the n values in the text is announced with more bytes than a value may have. (A dictionary's values are on its page.)
abbrev pub IsValueOver : Kind → Option Encoding → List ℕ → ℕ → Type 0
IsValueOver kind (Some Plain) text n = IsReadOver kind text n
IsValueOver ByteArray (Some DeltaLengthByteArray) text n = IsLengthsOver text n
IsValueOver ByteArray (Some DeltaByteArray) text n = IsPrefixesOver text n
IsValueOver (FixedLenByteArray size) (Some DeltaByteArray) text n = IsPrefixesOver text n
IsValueOver kind (Some ByteStreamSplit) text n = IsSplitReadOver kind text n
IsValueOver kind encoding text n = ⊥

-- how many entries with these definition levels have a value
abbrev pub full : Leaf → List ℕ → ℕ
full leaf definitions = length (filter (λ d. d == leaf.greatest_definition) definitions)

-- a value of the page goes beyond the limit
pub data IsBodyOver (leaf : Leaf) (h : PageHeader) (body : List ℕ) : Type 0 where
  in_version_1 : (own : DataPageHeader) (rs ds text : List ℕ) → h.kind ≡ pos 0 → h.data_page_header ≡ Some own → AreLevelsV1 leaf own body rs ds text
      → IsValueOver leaf.leaf_type.kind (encoding_of own.encoding) text (full leaf ds) → IsBodyOver leaf h body
  in_version_2 : (own : DataPageHeaderV2) (rs ds text : List ℕ) → h.kind ≡ pos 3 → h.data_page_header_v2 ≡ Some own → AreLevelsV2 leaf own body rs ds text
      → IsValueOver leaf.leaf_type.kind (encoding_of own.encoding) text (full leaf ds) → IsBodyOver leaf h body
  in_dictionary : (own : DictionaryPageHeader) (n : ℕ) → h.kind ≡ pos 2 → h.dictionary_page_header ≡ Some own → own.num_values ≡ pos n
      → IsEncodingOfDictionary own.encoding → IsReadOver leaf.leaf_type.kind body n → IsBodyOver leaf h body

-- the page that begins here has a value that goes beyond the limit
pub record IsPageOver (leaf : Leaf) (bytes : List ℕ) : Type 0 where
  pub header : PageHeader
  pub body : List ℕ
  pub used : ℕ
  pub framed : IsFramed bytes header body used
  pub over : IsBodyOver leaf header body

-- what a page is refused for
abbrev pub IsOfPages : Refusal → Type 0
IsOfPages Truncated = Unit {0}
IsOfPages Thrift = Unit {0}
IsOfPages EncodingFault = Unit {0}
IsOfPages PageFault = Unit {0}
IsOfPages Levels = Unit {0}
IsOfPages Value = Unit {0}
IsOfPages Utf8 = Unit {0}
IsOfPages Limit = Unit {0}
IsOfPages _ = ⊥
