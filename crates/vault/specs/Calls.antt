-- What each call of the vault leaves.
use Rattle.std.specs.Prelude.{◌≡◌, ◌≢◌, ◌≤◌, ◌<◌, ◌⊎◌, ◌^◌, ◌-◌, ◌+◌, ℕ, List, Some, take, drop, Result, OnOk, IfErr, IsErrOf}
use Rattle.bits.specs.Refusals.{RefusedOnly}
use Rattle.bits.specs.declared.refusal.Refusal.{Refusal}
use Rattle.bits.specs.declared.refusal.Refusal.TheVariants.{Truncated, Device, Memory, InDoubt}
use Rattle.disk.specs.State.{State, content}
use Rattle.vault.specs.Views.{Same, AllBut, Swaps, LeavesAfter, LeavesNames, ReadsAs, WasKept, IsKept, IsRooted, StaysRooted, IsGone, IsNoFolder, root_path, next_path}
use Rattle.vault.specs.Ways.{IsClearWay, StaysClear, AreRootsClear, LeavesWays, LeavesClear, IsOffTheRoots}

-- the disk's failures grew, or their count stood at the greatest u64
abbrev pub HasFailed : State → State → Type 0
HasFailed old new = (old.failures < new.failures) ⊎ (2 ^ 64 - 1 ≤ old.failures)

-- a call ends at its first failure; after Ok, and where it is refused out of memory, it met none
pub record CountsOnce {T : Type 0} (result : Result T Refusal) (old new : State) : Type 0 where
  pub later : old.failures ≤ new.failures
  pub no_more : new.failures ≤ old.failures + 1
  pub none : OnOk result (new.failures ≡ old.failures)
  pub memory : IsErrOf result Memory → new.failures ≡ old.failures

-- a refusal, out of memory aside, comes only where the disk failed
abbrev pub OnlyFailed : {T : Type 0} → Result T Refusal → State → State → Type 0
OnlyFailed result old new = RefusedOnly (λ _. HasFailed old new) result

-- a refusal Device, where the disk failed
abbrev pub IsDeviceFailure : State → State → Refusal → Type 0
IsDeviceFailure old new e = (e ≡ Device) × HasFailed old new

-- a refusal Device, which an honest disk brings about only by a failure
abbrev pub IsHonestDevice : State → State → Refusal → Type 0
IsHonestDevice old new e = (e ≡ Device) × (old.honest → HasFailed old new)

-- a refusal of a call that reads a path: Device where the disk failed, Truncated where an honest disk has nothing there
abbrev pub IsReadRefusal : (State → List ℕ → Type 0) → List ℕ → State → State → Refusal → Type 0
IsReadRefusal IsMissing path old new e = IsDeviceFailure old new e ⊎ ((e ≡ Truncated) × (old.honest → IsMissing old path))

-- a range of the file's bytes, or as much of it as is there, as the disk reads
abbrev pub IsRangeRead : State → List ℕ → ℕ → ℕ → List ℕ → Type 0
IsRangeRead state path from len read = (bytes : List ℕ) × (content state.seen path ≡ Some bytes) × (read ≡ take len (drop from bytes))

-- where the path is kept, a range of its bytes
abbrev pub IsRangeKept : State → List ℕ → ℕ → ℕ → List ℕ → Type 0
IsRangeKept state path from len read = (bytes : List ℕ) → IsKept state path bytes → read ≡ take len (drop from bytes)

-- a call that only reads
pub record LeavesAll (old new : State) : Type 0 where
  pub moments : LeavesAfter Same old new
  pub rooted : IsRooted old → StaysRooted old new
  pub clear : LeavesWays old new
  pub names : (q : List ℕ) → new.seen.names q ≡ old.seen.names q
  pub seen : ReadsAs Same old new

-- A file of these bytes is put at a path.
pub record Puts {T : Type 0} (path bytes : List ℕ) (old new : State) (result : Result T Refusal) : Type 0 where
  -- at every moment each other path has what it had
  pub moments : LeavesAfter (AllBut path) old new
  pub seen : ReadsAs (AllBut path) old new
  pub kept : OnOk result (IsKept new path bytes)
  pub rooted : IsRooted old → StaysRooted old new
  -- nothing or a file stands at the path, whatever is returned
  pub own : StaysClear old new path
  pub clear : LeavesClear path old new
  pub cause : OnlyFailed result old new

-- The root is swapped for this one.
pub record SwapsRoot {T : Type 0} (root : List ℕ) (old new : State) (result : Result T Refusal) : Type 0 where
  -- at every moment the old root or the new one, whole
  pub moments : LeavesAfter (Swaps root) old new
  pub seen : ReadsAs (Swaps root) old new
  pub done : OnOk result (IsKept new root_path root)
  pub fresh : OnOk result (IsRooted new)
  pub gone : OnOk result (IsGone new next_path)
  -- refused before the rename: the old root, at every moment
  pub unchanged : IfErr result (λ e. e ≢ InDoubt → LeavesAfter (AllBut next_path) old new)
  -- refused InDoubt: at a moment within the call the next root was whole in whatever a stop could leave
  pub in_doubt : IfErr result (λ e. e ≡ InDoubt → WasKept next_path root old new)
  pub rooted : IsRooted old → StaysRooted old new
  -- no folder comes to stand at the root's two names, nor a file where a folder belongs
  pub clear : (q : List ℕ) → IsOffTheRoots q → IsClearWay old q → StaysClear old new q
  pub cause : AreRootsClear old → OnlyFailed result old new

-- A path is let go.
pub record Forgets {T : Type 0} (path : List ℕ) (old new : State) (result : Result T Refusal) : Type 0 where
  pub moments : LeavesAfter (AllBut path) old new
  pub seen : ReadsAs (AllBut path) old new
  pub gone : OnOk result (IsGone new path)
  pub others : LeavesNames path old new
  pub rooted : IsRooted old → StaysRooted old new
  pub clear : LeavesWays old new
  -- a folder stays, and this is no failure of the disk
  pub cause : IsNoFolder old path → OnlyFailed result old new
