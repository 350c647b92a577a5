-- The rows of a group cut to some of its leaves. The chunks of its other leaves may hold anything: parquet.thrift, RowGroup.
use Rattle.std.specs.Prelude.{◌≡◌, ℕ, pos, ◌<ℤ◌, List, length, ◌⊎◌, true}
use Rattle.schema.specs.Values.{ValueTrees}
use Rattle.schema.specs.Shape.{Fields}
use Rattle.schema.specs.Fits.{RowsFit}
use Rattle.schema.specs.Stripe.{Leaf, Entry, leaves_of, columns}
use Rattle.schema.specs.Cutting.{is_among, at_places, cut_to, cut_rows, ArePlaces}
use Rattle.metadata.specs.Records.{ColumnMeta, GroupMeta}
use Rattle.row_group.specs.Greatest.{most_rows}
use Rattle.row_group.specs.Chunks.{AreChunks, GroupMeans}
use Rattle.row_group.specs.Limits.{IsChunkOver, HasColumn, BeginsWith}

-- there are as many chunks as leaves, and those of the leaves at these places hold these columns
pub record AreWantedChunks (front : List ℕ) (places : List ℕ) (fs : Fields) (g : GroupMeta) (wanted : List (List Entry)) : Type 0 where
  pub as_many : length g.columns ≡ length (leaves_of fs)
  pub hold : AreChunks front (at_places places g.columns) (at_places places (leaves_of fs)) wanted

-- the group has these rows of the schema cut to the leaves at these places: as many as it says, which fit, and these leaves' chunks hold
-- their columns
pub record CutGroupMeans (front : List ℕ) (places : List ℕ) (fs : Fields) (g : GroupMeta) (rows : List ValueTrees) : Type 0 where
  pub places_are : ArePlaces fs places
  pub count : g.num_rows ≡ pos (length rows)
  pub fit : RowsFit (cut_to places fs) rows
  pub chunks : AreWantedChunks front places fs g (columns (cut_to places fs) rows)

-- the group has no rows but these of the schema cut to the leaves at these places
abbrev pub HasNoOtherRows : List ℕ → List ℕ → Fields → GroupMeta → List ValueTrees → Type 0
HasNoOtherRows front places fs g rows = (others : List ValueTrees) → CutGroupMeans front places fs g others → others ≡ rows

-- where the whole group has rows, they are these rows, cut
abbrev pub AreRowsCut : List ℕ → List ℕ → Fields → GroupMeta → List ValueTrees → Type 0
AreRowsCut front places fs g rows = (all : List ValueTrees) → GroupMeans front fs g all → rows ≡ cut_rows places fs all

-- chunk k of the group, with leaf k of the schema, which is at one of these places
pub record HasWanted (places : List ℕ) (fs : Fields) (g : GroupMeta) (Is : ColumnMeta → Leaf → Type 0) : Type 0 where
  pub column : HasColumn fs g Is
  pub wanted : is_among places column.k ≡ true

-- the group announces too many rows, or the chunk of a leaf at one of these places goes beyond a limit
abbrev pub IsCutGroupOver : List ℕ → List ℕ → Fields → GroupMeta → Type 0
IsCutGroupOver front places fs g = (most_rows <ℤ g.num_rows) ⊎ HasWanted places fs g (BeginsWith front IsChunkOver)
