-- What a stop leaves of a run: the table after the commits of exactly the calls that ended by then, or also after the one
-- that was in progress.
use Rattle.std.specs.Prelude.{◌≡◌, ◌≤◌, ◌<◌, ◌⊎◌, ℕ, List, [], ◌∷◌, ◌++◌}
use Rattle.disk.specs.State.{Image, State as DiskState}
use Rattle.table.specs.Table.{Table}
use Rattle.table.specs.State.{State}
use Rattle.table.specs.Calls.{Call, Answer}
use Rattle.table.specs.Refusing.{Happens, Run}
use Rattle.table.specs.Stops.{MayHold, RunsOn}
use Rattle.table.specs.Beginnings.{Commits, last_of}
use Rattle.table_state.specs.declared.standing.Core.{Core}
use Rattle.table_state.specs.OnDisk.{HoldsTable}
use Rattle.table_state.specs.Stands.{Stands}
use Rattle.store.specs.Running.{RunsFrom}

-- What of a run is left at a moment, from the state on that its ended calls led to at a time before, and which table an
-- image of the moment has.
pub data IsLeftAt {Image : Type 0} (images : ℕ → Image → Type 0) (holds : Image → Table → Type 0) (m : ℕ) (table : Table)
    (time : ℕ) (mid : State) : List Call → List Answer → ℕ → State → Type 0 where
  -- no call is left: it is the state's
  all_ended : MayHold mid table → IsLeftAt images holds m table time mid [] [] time mid
  -- the first that is left ends after the moment: it is the state's, or, where that call has begun before the moment, the
  -- one that it leads to
  one_goes_on : {next finish : ℕ} {after new : State} {call : Call} {answer : Answer} {calls : List Call} {answers : List Answer}
      → m < next → Happens mid call answer after → RunsOn images holds next after calls answers finish new
      → MayHold mid table ⊎ ((time < m) × MayHold after table)
      → IsLeftAt images holds m table time mid (call ∷ calls) (answer ∷ answers) finish new

-- An image of a moment of a run, and the run parted there.
pub record LeavesThePrefix {Image : Type 0} (images : ℕ → Image → Type 0) (holds : Image → Table → Type 0) (start : ℕ) (old : State) (calls : List Call) (answers : List Answer) (finish : ℕ) (new : State) (m : ℕ) (image : Image) : Type 0 where
  -- the calls that ended by the moment, with their answers, and the others
  pub ended : List Call
  pub later : List Call
  pub calls_are : calls ≡ ended ++ later
  pub told : List Answer
  pub untold : List Answer
  pub answers_are : answers ≡ told ++ untold
  -- when the last of them ended, and the state that they led to
  pub time : ℕ
  pub by_then : time ≤ m
  pub mid : State
  pub runs : RunsOn images holds start old ended told time mid
  -- the table that the image has
  pub table : Table
  pub held : holds image table
  pub left : IsLeftAt images holds m table time mid later untold finish new

-- a stop at any moment of a run leaves the table after the commits of the calls that had ended, or also after that of the one in progress
abbrev pub StopsLeaveThePrefix : {Image : Type 0} → (ℕ → Image → Type 0) → (Image → Table → Type 0) → Type 0
StopsLeaveThePrefix images holds = (start : ℕ) (old : State) (calls : List Call) (answers : List Answer) (finish : ℕ) (new : State)
    → ((image : _) → images start image → (table : Table) × holds image table × MayHold old table)
    → RunsOn images holds start old calls answers finish new
    → (m : ℕ) (image : _) → start ≤ m → m ≤ finish → images m image → LeavesThePrefix images holds start old calls answers finish new m image

-- The state's table is the one that the last commit of the calls leads to.
abbrev pub IsAfterTheCommits : State → List Call → List Answer → State → Type 0
IsAfterTheCommits s calls answers new = (tables : List Table) × Commits s calls answers new tables × (new.table ≡ last_of s.table tables)

-- What `run` says leaves the prefix (`LeavesThePrefix`), at each moment and in each image of the store's disk; and the calls that ended
-- made their commits, one after another.
abbrev pub RunsLeaveThePrefix : {D : Type 0} → (D → DiskState) → Type 0
RunsLeaveThePrefix {D} state = (old new : Core D) (s : State) (calls : List Call) (answers : List Answer) → Stands state old s → (run : RunsFrom state old new calls answers s)
    → (m : ℕ) (image : Image) → (state old.vault.disk).moment ≤ m → m ≤ (state new.vault.disk).moment → (state new.vault.disk).images m image
    → (left : LeavesThePrefix (state new.vault.disk).images HoldsTable (state old.vault.disk).moment s calls answers (state new.vault.disk).moment run.after m image) × IsAfterTheCommits s left.ended left.told left.mid

-- what `run` says is a history: the table's laws on histories hold of its calls and answers
abbrev pub RunsHappen : {D : Type 0} → (D → DiskState) → Type 0
RunsHappen {D} state = (old new : Core D) (s : State) (calls : List Call) (answers : List Answer) → (run : RunsFrom state old new calls answers s) → Run s calls answers run.after
