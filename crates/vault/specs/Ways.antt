-- Where a file can stand, and what keeps the way to it clear.
use Rattle.std.specs.Prelude.{◌≢◌, ◌≤◌, ℕ, List}
use Rattle.disk.specs.Paths.{IsOnTheWay}
use Rattle.disk.specs.State.{Image, State, may_leave}
use Rattle.disk.specs.declared.binding.Binding.TheVariants.{Folder, File}
use Rattle.vault.specs.Views.{root_path, next_path}

-- no file stands where a folder on the way to this path belongs
abbrev pub IsOpenIn : Image → List ℕ → Type 0
IsOpenIn c path = (folder : List ℕ) → IsOnTheWay folder path → (node : ℕ) → c.names folder ≢ File node

-- a file can stand at this path: no file stands where a folder on the way belongs, and no folder at the path itself
pub record IsClearIn (c : Image) (path : List ℕ) : Type 0 where
  pub open_way : IsOpenIn c path
  pub no_folder : c.names path ≢ Folder

-- no stop leaves a file where a folder on the way to this path belongs
abbrev pub IsOpenWay : State → List ℕ → Type 0
IsOpenWay state path = (c : Image) → may_leave state c → IsOpenIn c path

-- a file can stand at this path in whatever a stop leaves
abbrev pub IsClearWay : State → List ℕ → Type 0
IsClearWay state path = (c : Image) → may_leave state c → IsClearIn c path

-- what a put rests on: the disk is honest, and a file can stand at the path
abbrev pub CanPut : State → List ℕ → Type 0
CanPut state path = state.honest × IsClearWay state path

-- at each moment from old to new a file can stand at this path in whatever a stop leaves
abbrev pub StaysClear : State → State → List ℕ → Type 0
StaysClear old new path = (m : ℕ) (c : Image) → old.moment ≤ m → m ≤ new.moment → new.images m c → IsClearIn c path

-- a file can stand at the root's two names
pub record AreRootsClear (state : State) : Type 0 where
  pub root : IsClearWay state root_path
  pub next : IsClearWay state next_path

-- each way that is clear stays so
abbrev pub LeavesWays : State → State → Type 0
LeavesWays old new = (q : List ℕ) → IsClearWay old q → StaysClear old new q

-- neither path is on the way to the other
pub record AreApart (path q : List ℕ) : Type 0 where
  pub below : IsOnTheWay path q → ⊥
  pub above : IsOnTheWay q path → ⊥

-- a way that is clear stays so, where neither path is on the way to the other
abbrev pub LeavesClear : List ℕ → State → State → Type 0
LeavesClear path old new = (q : List ℕ) → AreApart path q → IsClearWay old q → StaysClear old new q

-- none of the root's two names is on the way to this path
pub record IsOffTheRoots (q : List ℕ) : Type 0 where
  pub root : IsOnTheWay root_path q → ⊥
  pub next : IsOnTheWay next_path q → ⊥
