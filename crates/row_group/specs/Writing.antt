-- What a writer of chunks and groups leaves.
use Rattle.std.specs.Prelude.{◌≡◌, ℕ, ◌+◌, ◌<◌, ◌<ℤ◌, ◌≤◌, pos, List, [], ◌∷◌, ◌++◌, length, None, Some}
use Rattle.std.specs.List.{Any, AllByRecursion}
use Rattle.bits.specs.declared.refusal.Refusal.{Refusal}
use Rattle.bits.specs.declared.refusal.Refusal.TheVariants.{RowShape, Limit}
use Rattle.schema.specs.Values.{ValueTrees}
use Rattle.schema.specs.Shape.{Fields}
use Rattle.schema.specs.Fits.{RowsFit}
use Rattle.schema.specs.Stripe.{Leaf, Entry, leaves_of, columns}
use Rattle.metadata.specs.Records.{ColumnMeta, ChunkMeta, GroupMeta}
use Rattle.plain.specs.Plain.{IsTooLong}
use Rattle.pages.specs.Page.{values}
use Rattle.pages.specs.Writing.{AreShort}
use Rattle.row_group.specs.Greatest.{most_entries, most_rows, most_bytes_before}
use Rattle.row_group.specs.Chunks.{ChunkMeans, StartsAt}
use Rattle.row_group.specs.Limits.{IsChunkOver}
use Rattle.row_group.specs.declared.options.ChunkOptions.{ChunkOptions}
use Rattle.row_group.specs.Paged.{ArePagesOf, chunk_weight, group_weight}
use Rattle.row_group.specs.Spelled.{HasPages, AreStatisticsOf}

-- The bytes of `new` are those of `old` and a chunk of these entries, which starts right after `old` and whose pages fill
-- exactly what was written, whatever follows it; so says its record. It goes beyond no limit of a reader. Each page has its rows,
-- as the options say, and is written as their style says; the record has the statistics of the entries.
pub record AppendsChunk (leaf : Leaf) (o : ChunkOptions) (old new : List ℕ) (m : ColumnMeta) (es : List Entry) : Type 0 where
  pub text : List ℕ
  pub parts : List (List Entry)
  pub joined : new ≡ old ++ text
  pub paged : ArePagesOf o.page_rows es parts
  pub starts : StartsAt m (length old)
  pub fills : (more : List ℕ) → ChunkMeans m leaf (text ++ more) es (length text)
  pub within_limits : (more : List ℕ) → IsChunkOver m leaf (text ++ more) → ⊥
  pub pages : (more : List ℕ) → HasPages leaf o es parts m (length old) (text ++ more) (length text)
  pub size : m.total_compressed_size ≡ Some (pos (length text))
  pub plain_size : m.total_uncompressed_size ≡ Some (pos (length text))
  pub statistics : AreStatisticsOf leaf es m.statistics
  pub short : length text ≤ chunk_weight o.style leaf.leaf_type.kind (length parts) es

-- why entries are too much for a chunk with these options after this many bytes
pub data IsChunkTooMuch (leaf : Leaf) (o : ChunkOptions) (before : ℕ) (es : List Entry) : Type 0 where
  empty_pages : o.page_rows ≡ 0 → IsChunkTooMuch leaf o before es
  many_entries : most_entries <ℤ pos (length es) → IsChunkTooMuch leaf o before es
  long_value : Any IsTooLong (values es) → IsChunkTooMuch leaf o before es
  heavy : (parts : List (List Entry)) → ArePagesOf o.page_rows es parts
      → most_bytes_before < before + chunk_weight o.style leaf.leaf_type.kind (length parts) es → IsChunkTooMuch leaf o before es

-- a chunk of this file: no path is given, and 0 for the offset that parquet.thrift deprecates
pub record IsOwnChunk (c : ChunkMeta) : Type 0 where
  pub here : c.file_path ≡ None
  pub offset : c.file_offset ≡ Some (pos 0)

-- a chunk for each leaf, of its entries, one right after the other: from where `old` ends to where `new` does
abbrev pub AppendsEach : ChunkOptions → List Leaf → List (List Entry) → List ℕ → List ℕ → List ChunkMeta → Type 0
AppendsEach o [] [] old new [] = new ≡ old
AppendsEach o (leaf ∷ leaves) (es ∷ columns) old new (c ∷ cs) =
    (middle : List ℕ) × AppendsChunk leaf o old middle c.meta_data es × IsOwnChunk c × AppendsEach o leaves columns middle new cs
AppendsEach o _ _ old new _ = ⊥

-- The bytes of `new` are those of `old` and the chunks of a group of these rows, in the order of the leaves; the record
-- counts the rows and the bytes. (So the group has the rows, whatever follows, and is over no limit: `GroupMeans`, `IsGroupOver`.)
pub record AppendsGroup (fs : Fields) (o : ChunkOptions) (old new : List ℕ) (g : GroupMeta) (rows : List ValueTrees) : Type 0 where
  pub text : List ℕ
  pub joined : new ≡ old ++ text
  pub count : g.num_rows ≡ pos (length rows)
  pub few : most_rows <ℤ pos (length rows) → ⊥
  pub fit : RowsFit fs rows
  pub chunks : AppendsEach o (leaves_of fs) (columns fs rows) old new g.columns
  pub size : g.total_byte_size ≡ Some (pos (length text))
  pub short : length text ≤ group_weight fs o rows

-- none of the columns has too many entries, or a value that is longer than a value may be
pub record AreTaken (fs : Fields) (rows : List ValueTrees) : Type 0 where
  pub few : AllByRecursion (λ es. most_entries <ℤ pos (length es) → ⊥) (columns fs rows)
  pub values_short : AllByRecursion AreShort (columns fs rows)

-- why rows are too much for a group with these options after this many bytes
pub data IsGroupTooMuch (fs : Fields) (o : ChunkOptions) (before : ℕ) (rows : List ValueTrees) : Type 0 where
  empty_pages : o.page_rows ≡ 0 → IsGroupTooMuch fs o before rows
  many_rows : most_rows <ℤ pos (length rows) → IsGroupTooMuch fs o before rows
  many_entries : Any (λ es. most_entries <ℤ pos (length es)) (columns fs rows) → IsGroupTooMuch fs o before rows
  long_value : Any (λ es. Any IsTooLong (values es)) (columns fs rows) → IsGroupTooMuch fs o before rows
  heavy : most_bytes_before < before + group_weight fs o rows → IsGroupTooMuch fs o before rows

-- what rows are refused for that should make a group
abbrev pub IsOfRows : Refusal → Type 0
IsOfRows RowShape = Unit {0}
IsOfRows Limit = Unit {0}
IsOfRows _ = ⊥
