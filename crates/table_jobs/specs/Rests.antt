-- The groups of rows as buffers hold them: the full ones, and apart from them the rest of each key.
use Rattle.std.specs.Prelude.{◌≤◌, ◌<◌, ℕ, List, length}
use Rattle.schema.specs.Shape.{Fields}
use Rattle.schema.specs.Values.{ValueTrees}
use Rattle.schema.specs.Keys.{KeyColumn}
use Rattle.partition.specs.Splitting.{KeyRows}
use Rattle.gather.specs.declared.key_buffer.KeyBuffer.{KeyBuffer}
use Rattle.gather.specs.Groups.{full_groups, AreRests}
use Rattle.gather.specs.KeyBuffers.{Hold}

-- a group has at least this many rows
abbrev pub IsAsLong : ℕ → KeyRows → Type 0
IsAsLong size g = size ≤ length g.rows

-- a group has fewer rows than this
abbrev pub IsShorter : ℕ → KeyRows → Type 0
IsShorter size g = length g.rows < size

-- these buffers hold the full groups of the rows, and those hold the rest of each key
pub record HoldParts (columns : List KeyColumn) (size : ℕ) (fs : Fields) (rows : List ValueTrees) (full others : List KeyBuffer) : Type 0 where
  pub rests : List KeyRows
  pub are : AreRests columns size rows rests
  pub full_held : Hold fs full (full_groups columns size rows)
  pub rests_held : Hold fs others rests
