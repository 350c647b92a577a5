-- The bytes of the pages that are written: parquet.thrift, PageHeader, DataPageHeader, DictionaryPageHeader, DataPageHeaderV2;
-- parquet-format, README.md, "Data Pages".
use Rattle.std.specs.Prelude.{◌≡◌, ◌==◌, ◌≤◌, ℕ, zero, suc, pos, false, List, [], ◌++◌, filter, length, is_none, Some, None}
use Rattle.byteorder.specs.Endian.{little_bytes}
use Rattle.schema.specs.declared.value.Kind.{Kind}
use Rattle.schema.specs.Values.{ValueTree}
use Rattle.schema.specs.Stripe.{Leaf, Entry}
use Rattle.thrift_compact.specs.Compact.{IsThrift}
use Rattle.metadata.specs.Records.{PageHeader}
use Rattle.metadata.specs.ToTree.{page_header_fields}
use Rattle.pages.specs.declared.encoding.Encoding.{Encoding}
use Rattle.pages.specs.declared.encoding.Encoding.TheVariants.{Plain, PlainDictionary, Rle, BitPacked, DeltaBinaryPacked, DeltaLengthByteArray, DeltaByteArray, RleDictionary, ByteStreamSplit}
use Rattle.pages.specs.declared.page_version.PageVersion.{PageVersion}
use Rattle.pages.specs.declared.page_version.PageVersion.TheVariants.{V1, V2}
use Rattle.pages.specs.WrittenValues.{AreValuesIn}
use Rattle.pages.specs.Greatest.{most_of_page}
use Rattle.pages.specs.Page.{AreLevels, IsFramed, repetitions, definitions}

-- the number of an encoding (parquet.thrift, Encoding)
abbrev pub number_of : Encoding → ℕ
number_of Plain = 0
number_of PlainDictionary = 2
number_of Rle = 3
number_of BitPacked = 4
number_of DeltaBinaryPacked = 5
number_of DeltaLengthByteArray = 6
number_of DeltaByteArray = 7
number_of RleDictionary = 8
number_of ByteStreamSplit = 9

-- The header of a data page: its numbers of entries, nulls and rows, the bytes of its body, and of each section of levels.
-- Levels are RLE; no statistics and no checksum are there, and nothing is compressed.
abbrev pub data_header : PageVersion → Encoding → ℕ → ℕ → ℕ → ℕ → ℕ → ℕ → PageHeader
data_header V1 encoding count nulls rows size repetition_bytes definition_bytes = record {
  kind = pos 0;
  uncompressed_page_size = Some (pos size);
  compressed_page_size = pos size;
  crc = None;
  data_page_header = Some (record {
    num_values = pos count;
    encoding = pos (number_of encoding);
    definition_level_encoding = Some (pos 3);
    repetition_level_encoding = Some (pos 3);
    statistics = None;
  });
  dictionary_page_header = None;
  data_page_header_v2 = None;
}
data_header V2 encoding count nulls rows size repetition_bytes definition_bytes = record {
  kind = pos 3;
  uncompressed_page_size = Some (pos size);
  compressed_page_size = pos size;
  crc = None;
  data_page_header = None;
  dictionary_page_header = None;
  data_page_header_v2 = Some (record {
    num_values = pos count;
    num_nulls = Some (pos nulls);
    num_rows = Some (pos rows);
    encoding = pos (number_of encoding);
    definition_levels_byte_length = pos definition_bytes;
    repetition_levels_byte_length = pos repetition_bytes;
    is_compressed = Some false;
    statistics = None;
  });
}

-- the header of a dictionary page with this many bytes of body and this many PLAIN entries
abbrev pub dictionary_header : ℕ → ℕ → PageHeader
dictionary_header size count = record {
  kind = pos 2;
  uncompressed_page_size = Some (pos size);
  compressed_page_size = pos size;
  crc = None;
  data_page_header = None;
  dictionary_page_header = Some (record { num_values = pos count; encoding = pos 0; is_sorted = None });
  data_page_header_v2 = None;
}

-- The first `used` bytes are this header and this body. The header has exactly the fields of its record, in the order of their ids.
pub record IsHeaded (header : PageHeader) (body bytes : List ℕ) (used : ℕ) : Type 0 where
  pub framed : IsFramed bytes header body used
  pub bare : IsThrift bytes (page_header_fields header) framed.header_end

-- how many of the entries begin a row
abbrev pub rows_in : List Entry → ℕ
rows_in es = length (filter (λ e. e.repetition == 0) es)

-- how many of the entries have no value
abbrev pub nulls_in : List Entry → ℕ
nulls_in es = length (filter (λ e. is_none e.value) es)

-- levels by the hybrid, which fill their section; none where the greatest level is 0
abbrev pub AreLevelsIn : ℕ → List ℕ → List ℕ → Type 0
AreLevelsIn zero levels inside = inside ≡ []
AreLevelsIn (suc g) levels inside = (are : AreLevels (suc g) inside levels) × (are.used ≡ length inside)

-- a section of levels: in version 1 its four bytes of length, the lowest first, come before it
abbrev pub section : PageVersion → ℕ → List ℕ → List ℕ
section V1 zero inside = inside
section V1 (suc g) inside = little_bytes 4 (length inside) ++ inside
section V2 g inside = inside

-- the body: both sections, and the values
abbrev pub body_of : PageVersion → Leaf → List ℕ → List ℕ → List ℕ → List ℕ
body_of version leaf repetition_bytes definition_bytes text =
    section version leaf.greatest_repetition repetition_bytes ++ (section version leaf.greatest_definition definition_bytes ++ text)

-- the header of these entries' page
abbrev pub page_header_of : PageVersion → Encoding → List Entry → ℕ → ℕ → ℕ → PageHeader
page_header_of version encoding es size repetition_bytes definition_bytes =
    data_header version encoding (length es) (nulls_in es) (rows_in es) size repetition_bytes definition_bytes

-- The first `used` bytes are a page of these entries as it is written: its header, its sections of levels, and its values,
-- which fill the rest of the body as the relation of their encoding says.
pub record IsWrittenPage (leaf : Leaf) (version : PageVersion) (encoding : Encoding) (AreWrittenAs : List ℕ → Type 0) (es : List Entry) (bytes : List ℕ) (used : ℕ) : Type 0 where
  pub repetition_bytes : List ℕ
  pub definition_bytes : List ℕ
  pub text : List ℕ
  pub first : AreLevelsIn leaf.greatest_repetition (repetitions es) repetition_bytes
  pub second : AreLevelsIn leaf.greatest_definition (definitions es) definition_bytes
  pub spelled : AreWrittenAs text
  pub small : length (body_of version leaf repetition_bytes definition_bytes text) ≤ most_of_page
  pub headed : IsHeaded (page_header_of version encoding es (length (body_of version leaf repetition_bytes definition_bytes text)) (length repetition_bytes) (length definition_bytes))
      (body_of version leaf repetition_bytes definition_bytes text) bytes used

-- The first `used` bytes are the page of a dictionary with these entries as it is written: its header, and the entries, which fill the body.
pub record IsWrittenDictionary (kind : Kind) (vs : List ValueTree) (bytes : List ℕ) (used : ℕ) : Type 0 where
  pub text : List ℕ
  pub spelled : AreValuesIn kind Plain vs text
  pub small : length text ≤ most_of_page
  pub headed : IsHeaded (dictionary_header (length text) (length vs)) text bytes used
