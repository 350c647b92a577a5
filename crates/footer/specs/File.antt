-- What the bytes of a whole file mean: parquet-format, README.md, "File format"; parquet.thrift, FileMetaData.
use Rattle.std.specs.Prelude.{◌≡◌, ℕ, ◌^◌, ◌<◌, List, [], ◌∷◌, ◌++◌, length, flat_map, None}
use Rattle.std.specs.List.{AllByRecursion}
use Rattle.byteorder.specs.Endian.{little_bytes}
use Rattle.schema.specs.Values.{ValueTrees}
use Rattle.schema.specs.Shape.{Fields}
use Rattle.schema.specs.Listing.{IsSchemaOf}
use Rattle.metadata.specs.Records.{FileMeta, GroupMeta, ChunkMeta}
use Rattle.metadata.specs.FromTree.{file_meta}
use Rattle.metadata.specs.Answers.{StandsFor}
use Rattle.row_group.specs.Chunks.{GroupMeans}

-- `PAR1`
abbrev pub magic : List ℕ
magic = 80 ∷ 65 ∷ 82 ∷ 49 ∷ []

-- `PAR1` and the chunks, which are the front; the footer, its length in four bytes, and `PAR1`
pub record IsFramed (bytes front footer : List ℕ) : Type 0 where
  pub chunks : List ℕ
  pub begins : front ≡ magic ++ chunks
  pub short : length footer < 2 ^ 32
  pub joined : bytes ≡ front ++ footer ++ little_bytes 4 (length footer) ++ magic

-- the record of the file stands in its footer, and need not fill it
pub record IsFile (bytes front : List ℕ) (meta : FileMeta) : Type 0 where
  pub footer : List ℕ
  pub used : ℕ
  pub framed : IsFramed bytes front footer
  pub stands : StandsFor file_meta footer meta used

-- the chunks of a group lie in this file
abbrev pub LiesHere : GroupMeta → Type 0
LiesHere g = AllByRecursion (λ (c : ChunkMeta). c.file_path ≡ None) g.columns

-- the groups, each with its rows
abbrev pub AreGroups : List ℕ → Fields → List GroupMeta → List (List ValueTrees) → Type 0
AreGroups front fs [] [] = Unit {0}
AreGroups front fs (g ∷ gs) (rows ∷ others) = LiesHere g × GroupMeans front fs g rows × AreGroups front fs gs others
AreGroups front fs _ _ = ⊥

-- the rows of the groups, joined
pub record GroupsMean (front : List ℕ) (fs : Fields) (gs : List GroupMeta) (rows : List ValueTrees) : Type 0 where
  pub groups : List (List ValueTrees)
  pub each : AreGroups front fs gs groups
  pub joined : rows ≡ flat_map (λ g. g) groups

-- The file means these rows of this schema: the footer's list is the schema, and the rows are those of its groups.
pub record FileMeans (bytes : List ℕ) (fs : Fields) (rows : List ValueTrees) : Type 0 where
  pub front : List ℕ
  pub meta : FileMeta
  pub file : IsFile bytes front meta
  pub schema : IsSchemaOf meta.schema fs
  pub held : GroupsMean front fs meta.row_groups rows
