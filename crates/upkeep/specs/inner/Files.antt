-- What is known of a part file step by step.
use Rattle.std.specs.Prelude.{◌≡◌, ℕ, List, [], ◌∷◌}
use Rattle.schema.specs.Values.{ValueTrees}
use Rattle.schema.specs.Shape.{Fields}
use Rattle.schema.specs.Stripe.{Entry, leaves_of}
use Rattle.schema.specs.Listing.{IsSchemaOf}
use Rattle.metadata.specs.Records.{FileMeta, GroupMeta}
use Rattle.footer.specs.File.{IsFile, GroupsMean}
use Rattle.footer.specs.Faults.{IsLong, IsOverLimit}
use Rattle.manifest.specs.Groups.{Group}
use Rattle.manifest.specs.Parts.{HoldsGroup, AreFullChunks}

-- this is the record of the file's footer
pub record IsRecorded (bytes : List ℕ) (meta : FileMeta) : Type 0 where
  pub short : IsLong bytes → ⊥
  pub alone : (front : List ℕ) (other : FileMeta) → IsFile bytes front other → other ≡ meta

-- the file of this record was read, and has this schema
pub record IsReadAs (bytes : List ℕ) (meta : FileMeta) (fs : Fields) : Type 0 where
  pub short : IsLong bytes → ⊥
  pub front : List ℕ
  pub rows : List ValueTrees
  pub file : IsFile bytes front meta
  pub schema : IsSchemaOf meta.schema fs
  pub held : GroupsMean front fs meta.row_groups rows
  pub within : IsOverLimit bytes → ⊥

-- the file was read, has this schema, and has this row group and no other
pub record IsGroupAs (bytes : List ℕ) (fs : Fields) (own : GroupMeta) : Type 0 where
  pub meta : FileMeta
  pub read : IsReadAs bytes meta fs
  pub one : meta.row_groups ≡ own ∷ []

-- the bytes are a file of these fields, and it holds the group
abbrev pub HoldsAs : Fields → Group → List ℕ → Type 0
HoldsAs fs g bytes = (rows : List ValueTrees) × HoldsGroup fs g bytes rows

-- some columns fill the chunks of the group in the file, and its statistics hold of them
abbrev pub FillsColumns : Fields → Group → List ℕ → Type 0
FillsColumns fs g bytes = (front : List ℕ) (meta : FileMeta) → IsFile bytes front meta → (columns : List (List Entry)) × AreFullChunks front (leaves_of fs) g.chunks g.known.leaves columns
