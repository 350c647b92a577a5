-- Which table an image of a disk holds.
use Rattle.std.specs.Prelude.{ℕ, List}
use Rattle.disk.specs.State.{Image, State as DiskState, content, may_leave}
use Rattle.manifest.specs.Table.{TableOf}
use Rattle.vault.specs.Ways.{IsClearIn}
use Rattle.recovery.specs.Sound.{IsSound}
use Rattle.table.specs.Table.{Table}
use Rattle.table_state.specs.Spares.{IsPlace}

-- the files of the image are this table, and a file can stand at each place of the table's files
pub record HoldsTable (image : Image) (t : Table) : Type 0 where
  pub files : TableOf (content image) t
  pub room : (path : List ℕ) → IsPlace t.keys path → IsClearIn image path

-- an image holds a table that is allowed
pub record HoldsAllowed (Allows : Table → Type 0) (image : Image) : Type 0 where
  pub table : Table
  pub held : HoldsTable image table
  pub allowed : Allows table

-- Whatever a stop leaves holds an allowed table, and an opening finds it.
pub record IsSoundFor (Allows : Table → Type 0) (disk : DiskState) : Type 0 where
  pub tables : (image : Image) → may_leave disk image → HoldsAllowed Allows image
  pub sound : IsSound disk
