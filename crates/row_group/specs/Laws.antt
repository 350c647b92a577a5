-- That chunks and groups hold one column, and one list of rows, also where nobody has read them.
use Rattle.std.specs.Prelude.{◌≡◌, ℕ, List}
use Rattle.bits.specs.Codec.{IsFunctional}
use Rattle.schema.specs.Values.{ValueTrees}
use Rattle.schema.specs.Shape.{Fields}
use Rattle.schema.specs.Stripe.{Leaf, Entry}
use Rattle.schema.specs.Law.{IsSchema}
use Rattle.schema.specs.Cutting.{ArePlaces, cut_rows}
use Rattle.metadata.specs.Records.{ColumnMeta, GroupMeta}
use Rattle.row_group.specs.Chunks.{ChunkMeans, ColumnMeans, GroupMeans}
use Rattle.row_group.specs.Wanted.{CutGroupMeans}

-- a chunk's bytes hold at most one column
abbrev pub ChunksHoldOneColumn : Type 0
ChunksHoldOneColumn = (m : ColumnMeta) (leaf : Leaf) → IsFunctional (ChunkMeans m leaf)

-- the bytes of a file before its footer hold at most one column for the record of a chunk
abbrev pub FilesHoldOneColumn : Type 0
FilesHoldOneColumn = (front : List ℕ) (m : ColumnMeta) (leaf : Leaf) (es fs : List Entry) → ColumnMeans front m leaf es → ColumnMeans front m leaf fs → es ≡ fs

-- a group of a schema has at most one list of rows
abbrev pub GroupsHaveOneList : Type 0
GroupsHaveOneList = (front : List ℕ) (fs : Fields) (g : GroupMeta) (rows others : List ValueTrees) → IsSchema fs → GroupMeans front fs g rows → GroupMeans front fs g others → rows ≡ others

-- a group that has rows has, at some of its leaves, these rows cut to them
abbrev pub CutGroupsHaveCutRows : Type 0
CutGroupsHaveCutRows =
    (front places : List ℕ) (fs : Fields) (g : GroupMeta) (rows : List ValueTrees) → ArePlaces fs places → GroupMeans front fs g rows
    → CutGroupMeans front places fs g (cut_rows places fs rows)
