-- The columns of a file, one by one.
use Rattle.std.specs.Prelude.{◌≡◌, ℕ, ◌+◌, ◌≤◌, pos, List, Some, length, take, drop, map}
use Rattle.schema.specs.Annotations.{order_of}
use Rattle.schema.specs.Stripe.{Leaf, Entry}
use Rattle.schema.specs.Views.{leaf_view}
use Rattle.schema.specs.declared.field.Leaf.{Leaf as CodeLeaf}
use Rattle.metadata.specs.Records.{ColumnMeta}
use Rattle.metadata.specs.Views.{chunk_meta_view}
use Rattle.metadata.specs.declared.chunk_meta.ChunkMeta.{ChunkMeta as CodeChunk}
use Rattle.row_group.specs.Chunks.{StartsAt, ChunkMeans}
use Rattle.statistics.specs.Bounds.{Statistics, Bounds, statistics_of}
use Rattle.statistics.specs.declared.stats.Stats.{Stats}
use Rattle.manifest.specs.Parts.{IsFullChunk, AreFullChunks}

-- some columns fill the chunks, and the statistics hold of them
abbrev pub AreColumns : List ℕ → List CodeLeaf → List CodeChunk → List Stats → Type 0
AreColumns front leaves chunks stats = (columns : List (List Entry)) × AreFullChunks front (map leaf_view leaves) (map chunk_meta_view chunks) (map statistics_of stats) columns

-- the chunk is full of these entries, and the statistics hold of them
abbrev pub IsColumn : List ℕ → Leaf → ColumnMeta → Statistics → List Entry → Type 0
IsColumn front leaf m s es = IsFullChunk front m leaf es × Bounds (order_of leaf.leaf_type) s es

-- the bytes from this place on that the record says the chunk has
pub record IsTextFrom (front : List ℕ) (m : ColumnMeta) (start : ℕ) (text : List ℕ) : Type 0 where
  pub size : ℕ
  pub sized : m.total_compressed_size ≡ Some (pos size)
  pub there : start + size ≤ length front
  pub here : text ≡ take size (drop start front)

-- the chunk's bytes, from where it starts
abbrev pub IsTextOf : List ℕ → ColumnMeta → List ℕ → Type 0
IsTextOf front m text = (start : ℕ) × StartsAt m start × IsTextFrom front m start text

-- the pages of the chunk hold these entries and fill the bytes
abbrev pub IsFilled : ColumnMeta → Leaf → List ℕ → List Entry → Type 0
IsFilled m leaf text es = ChunkMeans m leaf text es (length text)

-- the pages of the chunk hold these entries and fill the bytes, and the statistics hold of the entries
abbrev pub IsColumnIn : List ℕ → Leaf → ColumnMeta → Statistics → List Entry → Type 0
IsColumnIn text leaf m s es = IsFilled m leaf text es × Bounds (order_of leaf.leaf_type) s es
