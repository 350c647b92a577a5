-- The words of the calls' contracts.
use Rattle.std.specs.Prelude.{◌≡◌, ◌≢◌, ◌≤◌, ℕ, true, List, Result, Err}
use Rattle.bits.specs.declared.refusal.Refusal.{Refusal}
use Rattle.bits.specs.declared.refusal.Refusal.TheVariants.{Closed, InDoubt}
use Rattle.disk.specs.State.{Image, State as DiskState}
use Rattle.vault.specs.Views.{LeavesAfter, ReadsAs, WasKept, root_path, next_path}
use Rattle.vault.specs.Calls.{HasFailed}
use Rattle.table.specs.State.{State}
use Rattle.table.specs.Calls.{Call, Answer, refused}
use Rattle.table.specs.Refusing.{Happens, is_failure}
use Rattle.table.specs.Stops.{Survives}
use Rattle.table_state.specs.declared.standing.Core.{Core}
use Rattle.table_state.specs.OnDisk.{HoldsTable}
use Rattle.table_state.specs.Paths.{IsOlder}
use Rattle.table_state.specs.Spares.{Agrees}
use Rattle.table_state.specs.Stands.{Stands}

-- no earlier moment changes, so what was said of one stays true
pub record KeepsPast (old new : DiskState) : Type 0 where
  pub later : old.moment ≤ new.moment
  pub history : (m : ℕ) (image : Image) → m ≤ old.moment → new.images m image → old.images m image
  pub keeps : (m : ℕ) (image : Image) → m ≤ old.moment → old.images m image → new.images m image

-- at a moment from old to new a next root, whole, was in whatever a stop could leave: all was done but its rename
abbrev pub WasNextKept : DiskState → DiskState → Type 0
WasNextKept old new = (root : List ℕ) × WasKept next_path root old new

-- The path of a file that is older than the state, and not the root's: a part file's under a number that was given, or a path where no
-- file of the table stands.
abbrev pub IsOlderFile : State → List ℕ → Type 0
IsOlderFile s path = IsOlder s.table.keys s.next_group path × (path ≢ root_path)

-- The store keeps what is replaced, and of these files none is removed or written: at every moment each has in each image what it had, and
-- it is read as it was.
pub record KeepsFiles {D : Type 0} (state : D → DiskState) (old new : Core D) (Older : List ℕ → Type 0) : Type 0 where
  pub keeps : new.keeps ≡ true
  pub moments : LeavesAfter (Agrees Older) (state old.vault.disk) (state new.vault.disk)
  pub seen : ReadsAs (Agrees Older) (state old.vault.disk) (state new.vault.disk)

-- From the one state the call gives this answer and leads to a state that the store then stands in. A stop at any
-- moment of it leaves a table of the one or of the other.
pub record ActsFrom {D : Type 0} (state : D → DiskState) (old new : Core D) (call : Call) (answer : Answer) (s : State) : Type 0 where
  pub after : State
  pub happens : Happens s call answer after
  pub survives : Survives (state new.vault.disk).images HoldsTable (state old.vault.disk).moment (state new.vault.disk).moment s after
  pub stands : Stands state new after
  pub past : KeepsPast (state old.vault.disk) (state new.vault.disk)
  -- in doubt only after a next root was whole
  pub doubt : answer ≡ refused InDoubt → WasNextKept (state old.vault.disk) (state new.vault.disk)
  -- a store that keeps what is replaced leaves each older file alone
  pub kept : old.keeps ≡ true → KeepsFiles state old new (IsOlderFile s)

-- on an honest disk, from each state that the store stands in
abbrev pub Acts : {D : Type 0} → (D → DiskState) → Core D → Core D → Call → Answer → Type 0
Acts state old new call answer = (state old.vault.disk).honest → (s : State) → Stands state old s → ActsFrom state old new call answer s

-- on an honest disk: an answer tells of a failed disk only where the disk failed within the call
abbrev pub HasCause : {D : Type 0} → (D → DiskState) → Core D → Core D → Answer → Type 0
HasCause state old new answer = (state old.vault.disk).honest → (s : State) → Stands state old s → is_failure answer ≡ true → HasFailed (state old.vault.disk) (state new.vault.disk)

-- on any disk: a closed store refuses the call, and nothing changes
abbrev pub StaysClosed : {D T : Type 0} → Core D → Core D → Result T Refusal → Type 0
StaysClosed old new result = old.closed ≡ true → (result ≡ Err Closed) × (new ≡ old)

-- a commit that is answered in doubt closes the store
abbrev pub ClosesInDoubt : {D T : Type 0} → Core D → Result T Refusal → Type 0
ClosesInDoubt new result = result ≡ Err InDoubt → new.closed ≡ true

-- On any disk, whatever a call answers: which parts of a store it may change. All others are as they were.

-- a commit of its own: the disk, the table, which files are in use, the next number of a file, that the store is closed, and whether a
-- cleaning met a fault; no job, no cursor and no setting
abbrev pub TouchesTable : {D : Type 0} → Core D → Core D → Type 0
TouchesTable old new =
    new ≡ record old { vault = new.vault; manifest = new.manifest; snapshots = new.snapshots; next_group = new.next_group; closed = new.closed; clean = new.clean }

-- a call on jobs: the disk, which files are in use, the next number of a file, and jobs; not the table, and no cursor
abbrev pub TouchesJobs : {D : Type 0} → Core D → Core D → Type 0
TouchesJobs old new = new ≡ record old { vault = new.vault; snapshots = new.snapshots; next_group = new.next_group; jobs = new.jobs; next_job = new.next_job }

-- the commit of a job: as a commit of its own, and jobs
abbrev pub TouchesTableAndJobs : {D : Type 0} → Core D → Core D → Type 0
TouchesTableAndJobs old new = TouchesTable (record old { jobs = new.jobs }) new

-- A change that is refused, the commit of a job too: the disk, which files are in use, the next number of a file, and that the store is
-- closed. The table is the one before, and so are all jobs, cursors and settings.
abbrev pub LeavesTable : {D : Type 0} → Core D → Core D → Type 0
LeavesTable old new = new ≡ record old { vault = new.vault; snapshots = new.snapshots; next_group = new.next_group; closed = new.closed }

-- a call on cursors: the disk, which files are in use, and cursors; not the table, and no job
abbrev pub TouchesCursors : {D : Type 0} → Core D → Core D → Type 0
TouchesCursors old new = new ≡ record old { vault = new.vault; snapshots = new.snapshots; cursors = new.cursors; next_cursor = new.next_cursor }

-- the call is not answered in doubt
abbrev pub IsSure : {T : Type 0} → Result T Refusal → Type 0
IsSure result = result ≡ Err InDoubt → ⊥
