-- What the steps of writing one file do.
use Rattle.std.specs.Prelude.{◌≡◌, ◌≢◌, ◌⊎◌, ℕ, List, Result, OnOk, IfErr}
use Rattle.disk.specs.Paths.{folder_of, IsOnTheWay}
use Rattle.disk.specs.State.{Image, State, may_leave}
use Rattle.disk.specs.Calls.{IsStill}
use Rattle.disk.specs.declared.binding.Binding.TheVariants.{Nothing, Folder, File}
use Rattle.disk.specs.declared.fault.Fault.{Fault}
use Rattle.disk.specs.declared.fault.Fault.TheVariants.{Failed, Memory}
use Rattle.bits.specs.declared.refusal.Refusal.{Refusal}
use Rattle.bits.specs.declared.refusal.Refusal.TheVariants as refusal
use Rattle.vault.specs.Views.{LeavesAfter, Same, AllBut, Swaps, ReadsAs, IsRooted, StaysRooted, IsKept, IsGone, IsNoFolder, root_path, next_path}
use Rattle.vault.specs.Ways.{IsClearWay, StaysClear, LeavesClear, LeavesWays}

-- the folder of this path is there, as the disk reads
abbrev pub IsHoused : State → List ℕ → Type 0
IsHoused state path = state.seen.names (folder_of path) ≡ Folder

-- where a stop leaves a file's name, one could have left it before
abbrev pub NoNewFiles : State → State → Type 0
NoNewFiles old new = (c : Image) → may_leave new c → (q : List ℕ) (node : ℕ) → c.names q ≡ File node → (d : Image) × may_leave old d × (d.names q ≡ File node)

-- a way that is clear stays so, where this path is not on it
abbrev pub LeavesBelow : List ℕ → State → State → Type 0
LeavesBelow path old new = (q : List ℕ) → (IsOnTheWay path q → ⊥) → IsClearWay old q → StaysClear old new q

-- a way that is clear stays so, where it is not on the way to this path
abbrev pub LeavesAbove : List ℕ → State → State → Type 0
LeavesAbove path old new = (q : List ℕ) → (IsOnTheWay q path → ⊥) → IsClearWay old q → StaysClear old new q

-- a call at this path leaves the bytes at all others, and the root's file whole
pub record Spares (path : List ℕ) (old new : State) : Type 0 where
  pub moments : LeavesAfter (AllBut path) old new
  pub seen : ReadsAs (AllBut path) old new
  pub rooted : IsRooted old → StaysRooted old new

-- a fault is a failure of the disk, or out of memory
abbrev pub FailsOnly : {T : Type 0} → Result T Fault → Type 0
FailsOnly result = IfErr result (λ e. (e ≡ Failed) ⊎ (e ≡ Memory))

-- What `clear` leaves: after Ok the disk reads no name at the path. Other names, and the bytes at other paths, stay as they were.
pub record Cleared {T : Type 0} (path : List ℕ) (old new : State) (result : Result T Fault) : Type 0 where
  pub spares : Spares path old new
  pub clear : LeavesWays old new
  pub files : NoNewFiles old new
  pub fails : IsNoFolder old path → FailsOnly result
  pub gone : OnOk result (new.seen.names path ≡ Nothing)
  pub others : (q : List ℕ) → q ≢ path → new.seen.names q ≡ old.seen.names q

-- What `make_folders` leaves: only folders on the way are made. No bytes at any path change, and no new name is a file's.
pub record FoldersMade {T : Type 0} (path : List ℕ) (old new : State) (result : Result T Fault) : Type 0 where
  pub moments : LeavesAfter Same old new
  pub seen : ReadsAs Same old new
  pub rooted : IsRooted old → StaysRooted old new
  pub clear : LeavesAbove path old new
  pub files : NoNewFiles old new
  pub fails : FailsOnly result
  pub housed : OnOk result (IsHoused new path)
  pub others : (q : List ℕ) → (IsOnTheWay q path → ⊥) → new.seen.names q ≡ old.seen.names q

-- the path reads as a file that has these bytes in each image
pub record IsWritten (state : State) (path bytes : List ℕ) : Type 0 where
  pub node : ℕ
  pub seen : state.seen.names path ≡ File node
  pub holds : (c : Image) → may_leave state c → c.bytes node ≡ bytes

-- no name stands at the path, as the disk reads, and its folder is there
abbrev pub IsVacant : State → List ℕ → Type 0
IsVacant state path = IsGone state path × IsHoused state path

-- What `write_new` leaves: after Ok the path reads as a file that has these bytes in each image. No bytes at another path change.
pub record Written {T : Type 0} (path bytes : List ℕ) (old new : State) (result : Result T Fault) : Type 0 where
  pub spares : Spares path old new
  pub clear : LeavesBelow path old new
  pub fails : FailsOnly result
  pub written : OnOk result (IsWritten new path bytes × IsHoused new path)

-- nothing changes, and after Ok no stop leaves another name at this path than is read
pub record MadeFirm {T : Type 0} (path : List ℕ) (old new : State) (result : Result T Fault) : Type 0 where
  pub still : IsStill old new
  pub fails : FailsOnly result
  pub firm : OnOk result ((c : Image) → may_leave new c → c.names path ≡ old.seen.names path)

-- What `place` leaves: after Ok each image has the file with these bytes at the path. No bytes at another path change.
pub record Placed {T : Type 0} (path bytes : List ℕ) (old new : State) (result : Result T Fault) : Type 0 where
  pub spares : Spares path old new
  pub clear : LeavesClear path old new
  pub fails : IsNoFolder old path → FailsOnly result
  pub written : OnOk result (IsWritten new path bytes)
  pub kept : OnOk result (IsKept new path bytes)

-- the next root has taken the root's place, or may have
pub record Turned {T : Type 0} (root : List ℕ) (old new : State) (result : Result T Fault) : Type 0 where
  pub moments : LeavesAfter (Swaps root) old new
  pub seen : ReadsAs (Swaps root) old new
  pub rooted : IsRooted old → StaysRooted old new
  pub clear : LeavesBelow root_path old new
  pub failed : IsNoFolder old root_path → IfErr result (λ e. e ≡ Failed)
  pub done : OnOk result (IsKept new root_path root × IsRooted new)
  pub gone : OnOk result (IsGone new next_path)

-- for whatever bytes the next root's file has in each image: it has taken the root's place, or may have
abbrev pub TurnsWritten : {T : Type 0} → State → State → Result T Fault → Type 0
TurnsWritten old new result = (root : List ℕ) → IsWritten old next_path root → Turned root old new result

-- how a fault is reported
abbrev pub refusal_for : Fault → Refusal
refusal_for Memory = refusal.Memory
refusal_for _ = refusal.Device
