-- How the pages of a chunk are written one after another.
use Rattle.std.specs.Prelude.{◌≡◌, ℕ, ◌+◌, ◌<◌, ◌≤◌, List, ◌++◌, length, take, drop, sum_by, Option, None, Some}
use Rattle.std.specs.List.{Any, AllByRecursion}
use Rattle.bits.specs.Codec.{Appends, InTurn}
use Rattle.schema.specs.declared.value.Kind.{Kind}
use Rattle.schema.specs.Values.{ValueTree}
use Rattle.schema.specs.Stripe.{Leaf, Entry}
use Rattle.metadata.specs.Records.{ColumnMeta}
use Rattle.plain.specs.Plain.{IsTooLong}
use Rattle.dictionary.specs.Entries.{AreEntriesAt, entries_of, indexes_of}
use Rattle.pages.specs.declared.page_version.PageVersion.{PageVersion}
use Rattle.pages.specs.Greatest.{most_of_page}
use Rattle.pages.specs.Page.{IsPage, entries, values}
use Rattle.pages.specs.Chunk.{IsChunk}
use Rattle.pages.specs.ShortPages.{HasShortValues}
use Rattle.pages.specs.Headers.{rows_in}
use Rattle.pages.specs.Writing.{page_weight, index_weight, AreShort, IsEncodingFor}
use Rattle.row_group.specs.declared.pages_in_turn.PageValues.{PageValues}
use Rattle.row_group.specs.declared.pages_in_turn.PageValues.TheVariants.{Encoded, Indexed}
use Rattle.row_group.specs.declared.chunk_pages.ChunkPages.{ChunkPages}
use Rattle.row_group.specs.declared.options.ChunkOptions.{ChunkOptions}
use Rattle.row_group.specs.Greatest.{most_bytes_before}
use Rattle.row_group.specs.Chunks.{StartsAt}
use Rattle.row_group.specs.Paged.{BeginsRow, ArePagesOf, chunk_weight}
use Rattle.row_group.specs.Spelled.{IsValuePage, IsIndexPage, HasPages}

-- the first page of these entries has n of them: those of the first `size` rows, or all where there are no more rows
pub record IsFirstPage (size : ℕ) (es : List Entry) (n : ℕ) : Type 0 where
  pub some : 0 < n
  pub within : n ≤ length es
  pub few : rows_in (take n es) ≤ size
  pub full : n < length es → (rows_in (take n es) ≡ size) × BeginsRow (drop n es)

-- the dictionary of a chunk whose values are written so
abbrev pub dictionary_for : PageValues → Option (List ValueTree)
dictionary_for (Encoded encoding) = None
dictionary_for (Indexed d) = Some (entries_of d.now)

-- a page of these entries, as it is written
abbrev pub IsPartAs : Leaf → PageVersion → PageValues → List ℕ → List Entry → ℕ → Type 0
IsPartAs leaf version (Encoded encoding) bytes es used = IsValuePage leaf version encoding bytes es used
IsPartAs leaf version (Indexed d) bytes es used = IsIndexPage leaf version (entries_of d.now) bytes es used

-- a page of these entries, as it is written and as it is read
pub record IsPart (leaf : Leaf) (version : PageVersion) (vs : PageValues) (bytes : List ℕ) (es : List Entry) (used : ℕ) : Type 0 where
  pub written : IsPartAs leaf version vs bytes es used
  pub read : IsPage leaf (dictionary_for vs) bytes (entries es) used

-- what a page of these entries weighs, as it is written
abbrev pub part_weight : PageValues → List Entry → ℕ
part_weight (Encoded encoding) es = page_weight es
part_weight (Indexed d) es = index_weight (length es)

-- none of the values is longer than a value may be, where the pages have the values themselves
abbrev pub AreShortIn : PageValues → List Entry → Type 0
AreShortIn (Encoded encoding) es = AreShort es
AreShortIn (Indexed d) es = Unit {0}

-- values of this type can be written as the pages have them
abbrev pub AreForKind : Kind → PageValues → Type 0
AreForKind kind (Encoded encoding) = IsEncodingFor kind encoding
AreForKind kind (Indexed d) = Unit {0}

-- the indexes from `at` on stand for these values, where the pages have indexes
abbrev pub HaveIndexes : PageValues → ℕ → List ValueTree → Type 0
HaveIndexes (Encoded encoding) at vs = Unit {0}
HaveIndexes (Indexed d) at vs = (at ≤ length (indexes_of d.now)) × AreEntriesAt (entries_of d.now) (drop at (indexes_of d.now)) vs

-- the bytes of `new` are those of `old` and the pages of these entries, one after another
pub record AppendsParts (leaf : Leaf) (o : ChunkOptions) (vs : PageValues) (es : List Entry) (old new : List ℕ) : Type 0 where
  pub parts : List (List Entry)
  pub paged : ArePagesOf o.page_rows es parts
  pub written : Appends (λ bytes. InTurn (IsPart leaf o.page_version vs) bytes parts) (sum_by (part_weight vs) parts) old new

-- why entries are too much for pages of them, as they are written, after this many bytes
pub data ArePartsTooMuch (before size : ℕ) (vs : PageValues) (es : List Entry) : Type 0 where
  long : Any IsTooLong (values es) → ArePartsTooMuch before size vs es
  heavy_page : most_of_page < page_weight es → ArePartsTooMuch before size vs es
  heavy_parts : (parts : List (List Entry)) → ArePagesOf size es parts → most_bytes_before < before + sum_by (part_weight vs) parts → ArePartsTooMuch before size vs es

-- the record of the chunk says this of its pages
pub record SaysOfPages (m : ColumnMeta) (pages : ChunkPages) : Type 0 where
  pub numbers : m.encodings ≡ Some pages.encodings.items
  pub dictionary_offset : m.dictionary_page_offset ≡ pages.dictionary_page_offset
  pub data_offset : m.data_page_offset ≡ pages.data_page_offset

-- the chunk that begins here has these entries, and no value in its pages is longer than a value may be
pub record IsShortChunk (leaf : Leaf) (bytes : List ℕ) (es : List Entry) (used : ℕ) : Type 0 where
  pub chunk : IsChunk leaf bytes (length es) es used
  pub short : AllByRecursion HasShortValues chunk.pages

-- The bytes of `new` are those of `old` and the pages of a chunk of these entries; each record that says this of them says where the
-- chunk starts, and how its pages are written.
pub record AppendsPages (leaf : Leaf) (o : ChunkOptions) (old new : List ℕ) (pages : ChunkPages) (es : List Entry) : Type 0 where
  pub text : List ℕ
  pub parts : List (List Entry)
  pub joined : new ≡ old ++ text
  pub paged : ArePagesOf o.page_rows es parts
  pub held : (more : List ℕ) → IsShortChunk leaf (text ++ more) es (length text)
  pub starts : (m : ColumnMeta) → SaysOfPages m pages → StartsAt m (length old)
  pub spelled : (m : ColumnMeta) → SaysOfPages m pages → (more : List ℕ) → HasPages leaf o es parts m (length old) (text ++ more) (length text)
  pub short : length text ≤ chunk_weight o.style leaf.leaf_type.kind (length parts) es
