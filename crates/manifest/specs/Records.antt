-- Which groups the records of a root describe: parquet.thrift, RowGroup and ColumnChunk (file_path).
use Rattle.std.specs.Prelude.{◌≡◌, ℕ, ◌≤◌, ◌<ℤ◌, pos, List, [], ◌∷◌, map, Some, None}
use Rattle.schema.specs.Shape.{Fields}
use Rattle.schema.specs.Stripe.{Leaf, leaves_of}
use Rattle.schema.specs.Keys.{KeyColumn}
use Rattle.metadata.specs.Records.{ChunkMeta, ColumnMeta, GroupMeta, Statistics as StatisticsRecord}
use Rattle.metadata.specs.Weight.{IsOwnColumn}
use Rattle.row_group.specs.Greatest.{most_entries, most_rows}
use Rattle.row_group.specs.Chunks.{IsChunkOf, StartsAt}
use Rattle.footer.specs.Greatest.{most_of_file}
use Rattle.statistics.specs.Bounds.{Statistics}
use Rattle.statistics.specs.Bytes.{IsBoundAt}
use Rattle.partition.specs.Folders.{CanPartition, part_path_of}
use Rattle.schema.specs.Fronts.{first_fields, IsFront}
pub use Rattle.manifest.specs.KeptChunks.{placed}
use Rattle.manifest.specs.Handles.{Group}

-- the statistics that the record of a chunk of this leaf has: the nulls are counted, and each bound that is there is a
-- value of the leaf's type
pub record HasStatistics (leaf : Leaf) (m : ColumnMeta) (s : Statistics) : Type 0 where
  pub given : StatisticsRecord
  pub there : m.statistics ≡ Some given
  pub nulls : given.null_count ≡ Some (pos s.nulls)
  pub min : IsBoundAt leaf.leaf_type.kind given.min_value s.min
  pub max : IsBoundAt leaf.leaf_type.kind given.max_value s.max

-- the record of a chunk of this leaf in its own file, with these statistics
pub record IsChunkRecord (leaf : Leaf) (c : ChunkMeta) (s : Statistics) : Type 0 where
  pub here : c.file_path ≡ None
  pub of_leaf : IsChunkOf c.meta_data leaf
  pub entries : ℕ
  pub counted : c.meta_data.num_values ≡ pos entries
  pub within_limits : most_entries <ℤ c.meta_data.num_values → ⊥
  pub start : ℕ
  pub starts : StartsAt c.meta_data start
  pub size : ℕ
  pub sized : c.meta_data.total_compressed_size ≡ Some (pos size)
  pub within_file : size ≤ most_of_file
  pub statistics : HasStatistics leaf c.meta_data s
  pub own : IsOwnColumn c.meta_data

-- each record is that of a chunk of the leaf at the same place, with the statistics at that place (`IsChunkRecord`)
abbrev pub AreChunkRecords : List Leaf → List ChunkMeta → List Statistics → Type 0
AreChunkRecords [] [] [] = Unit {0}
AreChunkRecords (leaf ∷ leaves) (c ∷ cs) (s ∷ ss) = IsChunkRecord leaf c s × AreChunkRecords leaves cs ss
AreChunkRecords _ _ _ = ⊥

-- A group that a table with these keys can have, whose files have these fields or the first of them: it has rows, a key that
-- can partition, and a chunk for each leaf of its file.
pub record IsGroup (keys : List KeyColumn) (stored : Fields) (g : Group) : Type 0 where
  pub some : 1 ≤ g.known.rows
  pub within_limits : most_rows <ℤ pos g.known.rows → ⊥
  pub keyed : CanPartition keys g.key
  pub file : IsFront g.width stored
  pub chunks : AreChunkRecords (leaves_of (first_fields g.width stored)) g.chunks g.known.leaves

-- the record of this group in a root: its chunks name its part file
pub record IsGroupRecord (keys : List KeyColumn) (stored : Fields) (m : GroupMeta) (g : Group) : Type 0 where
  pub is : IsGroup keys stored g
  pub counted : m.num_rows ≡ pos g.known.rows
  pub placed_chunks : m.columns ≡ map (placed (part_path_of keys g.key g.number)) g.chunks

-- each record is that of the group at the same place (`IsGroupRecord`), and there are as many of both
abbrev pub AreGroupRecords : List KeyColumn → Fields → List GroupMeta → List Group → Type 0
AreGroupRecords keys stored [] [] = Unit {0}
AreGroupRecords keys stored (m ∷ ms) (g ∷ gs) = IsGroupRecord keys stored m g × AreGroupRecords keys stored ms gs
AreGroupRecords keys stored _ _ = ⊥
