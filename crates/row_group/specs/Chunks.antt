-- Which column a chunk holds, and which rows a group: parquet.thrift, ColumnMetaData and RowGroup.
use Rattle.std.specs.Prelude.{◌≡◌, ℕ, ℤ, pos, negsuc, ◌&&◌, nat_lt, List, [], ◌∷◌, length, drop, Option, Some, None, if◌then◌else◌}
use Rattle.schema.specs.Values.{ValueTrees}
use Rattle.schema.specs.Shape.{Fields}
use Rattle.schema.specs.Stripe.{Leaf, Entry, leaves_of, columns}
use Rattle.schema.specs.Fits.{RowsFit}
use Rattle.schema.specs.Listed.{type_number}
use Rattle.metadata.specs.Records.{ColumnMeta, ChunkMeta, GroupMeta}
use Rattle.pages.specs.Chunk.{IsChunk}

-- the record of a chunk of this leaf: its path and its type, and no compression
pub record IsChunkOf (m : ColumnMeta) (leaf : Leaf) : Type 0 where
  pub path : m.path_in_schema ≡ leaf.path
  pub kind : m.kind ≡ pos (type_number leaf.leaf_type.kind)
  pub codec : m.codec ≡ pos 0

-- a chunk's own bytes, from where it starts, hold these entries of the leaf; its pages fill the first `used` of them
pub record ChunkMeans (m : ColumnMeta) (leaf : Leaf) (bytes : List ℕ) (es : List Entry) (used : ℕ) : Type 0 where
  pub is : IsChunkOf m leaf
  pub count : m.num_values ≡ pos (length es)
  pub held : IsChunk leaf bytes (length es) es used

-- the dictionary page's offset where one is given above 0 and below the data page's, else the data page's
abbrev pub first_page : Option ℤ → ℕ → ℕ → Type 0
first_page None page start = start ≡ page
first_page (Some (pos d)) page start = start ≡ (if nat_lt 0 d && nat_lt d page then d else page)
first_page (Some (negsuc d)) page start = ⊥

-- where the chunk starts in its file
pub record StartsAt (m : ColumnMeta) (start : ℕ) : Type 0 where
  pub page : ℕ
  pub data_page : m.data_page_offset ≡ pos page
  pub begins : first_page m.dictionary_page_offset page start

-- the bytes of a file before its footer hold these entries of the leaf in the chunk of this record
pub record ColumnMeans (front : List ℕ) (m : ColumnMeta) (leaf : Leaf) (es : List Entry) : Type 0 where
  pub start : ℕ
  pub used : ℕ
  pub starts : StartsAt m start
  pub means : ChunkMeans m leaf (drop start front) es used

-- a chunk for each leaf, in the order of the leaves
abbrev pub AreChunks : List ℕ → List ChunkMeta → List Leaf → List (List Entry) → Type 0
AreChunks front [] [] [] = Unit {0}
AreChunks front (c ∷ cs) (leaf ∷ leaves) (es ∷ columns) = ColumnMeans front c.meta_data leaf es × AreChunks front cs leaves columns
AreChunks front _ _ _ = ⊥

-- the group has these rows: as many as it says, which fit the schema, and its chunks hold their columns
pub record GroupMeans (front : List ℕ) (fs : Fields) (g : GroupMeta) (rows : List ValueTrees) : Type 0 where
  pub count : g.num_rows ≡ pos (length rows)
  pub fit : RowsFit fs rows
  pub chunks : AreChunks front g.columns (leaves_of fs) (columns fs rows)
