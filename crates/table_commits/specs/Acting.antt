-- How a commit call's end follows from its parts: what it wrote, and how its commit ended.
use Rattle.std.specs.Prelude.{◌≡◌, ◌≢◌, ◌≤◌, ℕ, List, false, None, Result, Ok, Err, IsTrue}
use Rattle.bits.specs.declared.refusal.Refusal.{Refusal}
use Rattle.bits.specs.declared.refusal.Refusal.TheVariants.{Limit, Device, Memory, InDoubt}
use Rattle.disk.specs.State.{State as DiskState}
use Rattle.snapshots.specs.Views.{state_of}
use Rattle.table.specs.Table.{Row, Table}
use Rattle.table.specs.State.{State}
use Rattle.table.specs.Calls.{Call, append, done, refused}
use Rattle.table.specs.Checks.{fault}
use Rattle.table.specs.Leading.{Leads, Rises, jobs_after, IsDone}
use Rattle.table.specs.Refusing.{Happens, gets_on, needs_memory, needs_disk, Stays}
use Rattle.table.specs.Limits.{IsOver, MayBeOver}
use Rattle.table.specs.Views.{answered}
use Rattle.table_state.specs.declared.standing.Core.{Core}
use Rattle.table_state.specs.Paths.{IsOlder}
use Rattle.table_state.specs.Spares.{Spares}
use Rattle.table_state.specs.Stands.{Shows, Stands, ShowsJobs}
use Rattle.table_commits.specs.Writing.{counted}
use Rattle.table_commits.specs.Committing.{Turns}
use Rattle.table_state.specs.Promises.{ActsFrom}

-- So far a call wrote files under numbers from its start's counter on, and no other file changed: the open jobs have only
-- files below it.
pub record WroteTo {D : Type 0} (state : D → DiskState) (old new : Core D) (s : State) (counter : ℕ) : Type 0 where
  pub rises : s.next_group ≤ counter
  pub keeps : new.keeps ≡ old.keeps
  pub spares : Spares s.table.keys (IsOlder s.table.keys s.next_group) (state old.vault.disk) (state new.vault.disk)
  pub shows : Shows state new (counted s counter)
  pub jobs : ShowsJobs (state new.vault.disk) (state_of new.snapshots) s new.jobs.items s.jobs

-- a commit is refused only Device, Memory, InDoubt, or Limit with its reason
abbrev pub HasReason : {T : Type 0} → State → Call → Result T Refusal → Type 0
HasReason s call (Ok x) = Unit {0}
HasReason s call (Err Limit) = MayBeOver s call × IsOver s call
HasReason s call (Err Device) = Unit {0}
HasReason s call (Err Memory) = Unit {0}
HasReason s call (Err InDoubt) = Unit {0}
HasReason s call (Err e) = ⊥

-- A call asks for a commit to this table, of n rows. It is not refused by its checks; it goes to the disk, and needs
-- memory.
pub record AsksCommit (s : State) (call : Call) (n : ℕ) (t : Table) (counter : ℕ) : Type 0 where
  pub leads : Leads s call n t counter
  pub unrefused : fault s call ≡ None
  pub other : t ≢ s.table
  pub on : IsTrue (gets_on s call)
  pub memory : IsTrue (needs_memory s call)
  pub disk : IsTrue (needs_disk s call)
  pub does : (new : State) → IsDone s call (done n) new → Happens s call (done n) new
  pub stays : (more : ℕ) → Rises s call more → Stays s call (counted s more)

-- a commit call acts, by what it wrote and how its commit ended
abbrev pub CommitsAct : {D : Type 0} → (D → DiskState) → Type 0
CommitsAct {D} state = (old mid new : Core D) (s : State) (call : Call) (n : ℕ) (t : Table) (counter : ℕ) (result : Result (Unit {0}) Refusal)
    → Stands state old s → s.closed ≡ false → AsksCommit s call n t counter → WroteTo state old mid s counter → HasReason s call result
    → Turns state mid new (counted s counter) t (jobs_after s call) result → ActsFrom state old new call (answered (λ _. done n) result) s

-- a call that is refused after it wrote some files
abbrev pub RefusalsAct : {D : Type 0} → (D → DiskState) → Type 0
RefusalsAct {D} state = (old new : Core D) (s : State) (call : Call) (counter : ℕ) (e : Refusal)
    → Stands state old s → s.closed ≡ false → WroteTo state old new s counter → Happens s call (refused e) (counted s counter) → ActsFrom state old new call (refused e) s

-- an append that passes its checks asks for its commit
abbrev pub AppendsAsk : Type 0
AppendsAsk = (s : State) (given : List Row) (n : ℕ) (t : Table) (counter : ℕ) → s.closed ≡ false → fault s (append given) ≡ None → Leads s (append given) n t counter → t ≢ s.table
    → AsksCommit s (append given) n t counter
