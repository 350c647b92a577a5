-- What a call leaves as it was.
use Rattle.std.specs.Prelude.{◌≡◌, ◌≢◌, ◌⊎◌, ℕ, List}
use Rattle.schema.specs.Keys.{KeyColumn}
use Rattle.disk.specs.State.{State as DiskState, content}
use Rattle.vault.specs.Views.{View, LeavesAfter, IsRooted, StaysRooted, root_path, next_path}
use Rattle.vault.specs.Ways.{IsClearWay, StaysClear}
use Rattle.table_state.specs.Paths.{IsPartPath}

-- what one has at these paths, the other has
abbrev pub Agrees : (List ℕ → Type 0) → View → View → Type 0
Agrees Needed u v = (path : List ℕ) → Needed path → v path ≡ u path

-- where a file of a table with these keys can stand
abbrev pub IsPlace : List KeyColumn → List ℕ → Type 0
IsPlace keys path = (path ≡ root_path) ⊎ ((path ≡ next_path) ⊎ IsPartPath keys path)

-- At every moment from the one to the other, these paths have in each image what they had, and but for the root they are read as they
-- were. No way to a place of the table's files is blocked, and no write of the root is left open.
pub record Spares (keys : List KeyColumn) (Needed : List ℕ → Type 0) (old new : DiskState) : Type 0 where
  pub moments : LeavesAfter (Agrees Needed) old new
  pub seen : (path : List ℕ) → Needed path → path ≢ root_path → content new.seen path ≡ content old.seen path
  pub rooted : IsRooted old → StaysRooted old new
  pub clear : (path : List ℕ) → IsPlace keys path → IsClearWay old path → StaysClear old new path

-- a file can stand at each place of the files of a table with these keys
abbrev pub HasRoom : List KeyColumn → DiskState → Type 0
HasRoom keys disk = (path : List ℕ) → IsPlace keys path → IsClearWay disk path
