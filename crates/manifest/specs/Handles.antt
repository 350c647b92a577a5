-- Groups as a root describes them, and lists of them that are shared, apart from where they lie in memory.
use Rattle.std.specs.Prelude.{ℕ, ◌+◌, List, [], ◌∷◌, length, map, flat_map}
use Rattle.std.specs.Rc.{rc_value}
use Rattle.std.specs.declared.rc.Rc.{Rc}
use Rattle.std.specs.declared.alloc.Global.{Global}
use Rattle.schema.specs.Values.{ValueTree}
use Rattle.schema.specs.Views.{key_view}
use Rattle.metadata.specs.Records.{ChunkMeta}
use Rattle.statistics.specs.Bounds.{Known, known_of}
use Rattle.manifest.specs.declared.chunk_records.ChunkRecords.{ChunkRecords}
use Rattle.manifest.specs.declared.group.Group.{Group as CodeGroup}
use Rattle.manifest.specs.declared.block.Block.{Block}

-- a group: its number and its key; how many of the table's fields besides the keys its file has, the first ones; the records of
-- its chunks in that file, and what they tell of its rows
pub record Group : Type 0 where
  pub number : ℕ
  pub key : List ValueTree
  pub width : ℕ
  pub chunks : List ChunkMeta
  pub known : Known

-- the records of chunks that a `ChunkRecords` of the program keeps
abbrev pub records_of : ChunkRecords → List ChunkMeta
records_of records = records.held.0

-- the group that a `Group` of the program stands for
abbrev pub group_view : CodeGroup → Group
group_view g = record { number = g.number; key = key_view g.key; width = g.width; chunks = records_of g.chunks; known = known_of g.stats }

-- the groups that handles stand for, in order
abbrev pub handles_view : List (Rc CodeGroup Global) → List Group
handles_view gs = map (λ g. group_view (rc_value g)) gs

-- the groups of blocks, one block after the other
abbrev pub groups_of_blocks : List (Rc Block Global) → List Group
groups_of_blocks blocks = flat_map (λ (b : Rc Block Global). handles_view (rc_value b).groups.items) blocks

-- how many groups stand before each block, if `before` groups stand before the first
abbrev pub starts_of : ℕ → List (Rc Block Global) → List ℕ
starts_of before [] = []
starts_of before (b ∷ bs) = before ∷ starts_of (before + length (rc_value b).groups.items) bs
