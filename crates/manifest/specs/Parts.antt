-- What a part file holds: one group of a table, without the keys.
use Rattle.std.specs.Prelude.{◌≡◌, ℕ, ◌+◌, ◌≤◌, pos, List, [], ◌∷◌, length, map, take, drop, Some}
use Rattle.schema.specs.Values.{ValueTrees}
use Rattle.schema.specs.Shape.{Fields}
use Rattle.schema.specs.Annotations.{order_of}
use Rattle.schema.specs.Stripe.{Leaf, Entry, leaves_of, columns}
use Rattle.schema.specs.Listing.{IsSchemaOf}
use Rattle.schema.specs.Keys.{KeyColumn, AreRowsOf}
use Rattle.metadata.specs.Records.{ColumnMeta, ChunkMeta, GroupMeta, FileMeta}
use Rattle.row_group.specs.Chunks.{StartsAt, ChunkMeans, GroupMeans}
use Rattle.row_group.specs.Limits.{IsGroupOver}
use Rattle.footer.specs.File.{IsFile, LiesHere}
use Rattle.footer.specs.Faults.{IsLong}
use Rattle.statistics.specs.Bounds.{Statistics, Bounds}
use Rattle.schema.specs.Fronts.{first_fields, padded}
use Rattle.manifest.specs.Groups.{Group}

-- from its start on, the pages of the chunk hold these entries and fill just as many bytes as its record says
pub record IsFullChunk (front : List ℕ) (m : ColumnMeta) (leaf : Leaf) (es : List Entry) : Type 0 where
  pub start : ℕ
  pub starts : StartsAt m start
  pub size : ℕ
  pub sized : m.total_compressed_size ≡ Some (pos size)
  pub there : start + size ≤ length front
  pub fills : ChunkMeans m leaf (take size (drop start front)) es size

-- each chunk, in the order of the leaves, is a full one (`IsFullChunk`), and its statistics hold of its column
abbrev pub AreFullChunks : List ℕ → List Leaf → List ChunkMeta → List Statistics → List (List Entry) → Type 0
AreFullChunks front [] [] [] [] = Unit {0}
AreFullChunks front (leaf ∷ leaves) (c ∷ cs) (s ∷ ss) (es ∷ columns) = IsFullChunk front c.meta_data leaf es × Bounds (order_of leaf.leaf_type) s es × AreFullChunks front leaves cs ss columns
AreFullChunks front _ _ _ _ = ⊥

-- The file has the fields of the group's file, and one group, whose chunk records are the described ones; its chunks hold the
-- columns of these rows, and the statistics hold of them.
pub record HoldsGroup (fs : Fields) (g : Group) (bytes : List ℕ) (stored : List ValueTrees) : Type 0 where
  pub front : List ℕ
  pub meta : FileMeta
  pub own : GroupMeta
  pub file : IsFile bytes front meta
  pub short : IsLong bytes → ⊥
  pub schema : IsSchemaOf meta.schema fs
  pub alone : meta.row_groups ≡ own ∷ []
  pub records : own.columns ≡ g.chunks
  pub here : LiesHere own
  pub within : IsGroupOver front fs own → ⊥
  pub means : GroupMeans front fs own stored
  pub count : length stored ≡ g.known.rows
  pub chunks : AreFullChunks front (leaves_of fs) g.chunks g.known.leaves (columns fs stored)

-- In a table with these keys and these fields besides: the file holds the rows of the group without their keys, as far as its
-- own fields go. Each further field is Null, and the key is put in at its places.
pub record PartMeans (keys : List KeyColumn) (fs : Fields) (g : Group) (bytes : List ℕ) (rows : List ValueTrees) : Type 0 where
  pub stored : List ValueTrees
  pub holds : HoldsGroup (first_fields g.width fs) g bytes stored
  pub keyed : AreRowsOf keys g.key (map (padded fs) stored) rows

-- each of the statistics holds of its leaf's column
abbrev pub HaveBounds : List Leaf → List Statistics → List (List Entry) → Type 0
HaveBounds [] [] [] = Unit {0}
HaveBounds (leaf ∷ leaves) (s ∷ ss) (es ∷ columns) = Bounds (order_of leaf.leaf_type) s es × HaveBounds leaves ss columns
HaveBounds _ _ _ = ⊥
