-- What a commit's swap of the root leaves.
use Rattle.std.specs.Prelude.{◌≡◌, ◌⊎◌, ◌≤◌, ℕ, true, List, Option, Some, None, Result, Ok, Err, IfErr}
use Rattle.std.specs.List.{AllZip}
use Rattle.bits.specs.declared.refusal.Refusal.{Refusal}
use Rattle.bits.specs.declared.refusal.Refusal.TheVariants.{Device, InDoubt}
use Rattle.vault.specs.Calls.{HasFailed}
use Rattle.disk.specs.State.{State as DiskState}
use Rattle.manifest.specs.Groups.{Group as FileGroup, Root, root_of}
use Rattle.manifest.specs.Root.{RootMeans, IsDescription}
use Rattle.snapshots.specs.State.{State as Versions, committed, fault_of, after, jobs_without}
use Rattle.snapshots.specs.Views.{state_of, prepared_of}
use Rattle.table.specs.Table.{Table, IsTable}
use Rattle.table.specs.State.{State, Job, had_with}
use Rattle.table.specs.Stops.{Survives}
use Rattle.table_state.specs.declared.standing.Core.{Core}
use Rattle.table_commits.specs.declared.turn.Turn.{Turn}
use Rattle.table_state.specs.OnDisk.{HoldsTable}
use Rattle.table_state.specs.Lookups.{jobs_left}
use Rattle.table_state.specs.Stands.{AreStored, IsReady, ShowsJob, Shows}
use Rattle.table_state.specs.Promises.{KeepsPast, WasNextKept, IsOlderFile, KeepsFiles}

-- the state after a commit to this table, which leaves these jobs
abbrev pub turned : State → Table → List (ℕ × Job) → State
turned s t jobs = record s { table = t; jobs = jobs; had = had_with t s.had }

-- the state after a commit to this table that is in doubt: closed
abbrev pub doubted : State → Table → State
doubted s t = record s { closed = true; doubtful = Some t }

-- where a commit to this table ends: done, in doubt, or refused with the state as it was
abbrev pub TurnsInto : {T : Type 0} → Result T Refusal → State → Table → List (ℕ × Job) → State → Type 0
TurnsInto (Ok x) s t jobs new = new ≡ turned s t jobs
TurnsInto (Err InDoubt) s t jobs new = new ≡ doubted s t
TurnsInto (Err e) s t jobs new = new ≡ s

-- the description with other groups and another next number
abbrev pub with_version : Root → List FileGroup → ℕ → Root
with_version root files next = record root { next = next; groups = files }

-- what is made ready for a commit to this description, which ends a job or none
pub record IsMade (versions : Versions) (root : Root) (job : Option ℕ) (turn : Turn) : Type 0 where
  pub manifest_is : root_of turn.manifest ≡ root
  pub job_is : turn.job ≡ job
  pub means : RootMeans turn.root.items root
  pub prepared_is : prepared_of turn.prepared ≡ after versions (committed root.groups job)

-- The jobs that are left without one, or all, are these in this table once it is there: no number that they wrote is in it.
abbrev pub ShowsJobsLeft : {D : Type 0} → DiskState → Core D → State → Table → Option ℕ → List (ℕ × Job) → Type 0
ShowsJobsLeft disk store s t job jobs =
    AllZip (ShowsJob disk t.keys t.schema s.next_group s.options.group_rows (had_with t s.had) (jobs_without job (state_of store.snapshots).jobs)) (jobs_left job store.jobs.items) jobs

-- A commit to this table, which ends a job or none and leaves these jobs, may be made: its groups are stored, in the order
-- that a table has, and described.
pub record IsPlanned {D : Type 0} (disk : DiskState) (store : Core D) (s : State) (t : Table) (jobs : List (ℕ × Job)) (job : Option ℕ) (root : Root) : Type 0 where
  pub valid : IsTable t
  pub keys : t.keys ≡ s.table.keys
  pub schema_is : root.schema ≡ t.schema
  pub keys_are : root.keys ≡ t.keys
  pub next_is : root.next ≡ t.next
  pub covers : t.next ≤ s.next_group
  pub stored : AreStored disk t.keys t.schema s.next_group root.groups t.groups
  pub described : IsDescription root
  -- the versions take it
  pub unrefused : fault_of (state_of store.snapshots) (committed root.groups job) ≡ None
  pub jobs_are : ShowsJobsLeft disk store s t job jobs

-- A commit to this table is ready: its files are stored, its root is written down, and the versions are prepared for it.
pub record IsTurnTo {D : Type 0} (disk : DiskState) (store : Core D) (s : State) (t : Table) (jobs : List (ℕ × Job)) (turn : Turn) : Type 0 where
  pub valid : IsTable t
  pub keys : t.keys ≡ s.table.keys
  pub covers : t.next ≤ s.next_group
  pub ready : IsReady disk s.next_group (root_of turn.manifest) turn.root.items t
  pub jobs_are : ShowsJobsLeft disk store s t turn.job jobs
  pub prepared : prepared_of turn.prepared ≡ after (state_of store.snapshots) (committed (root_of turn.manifest).groups turn.job)

-- From the one state a commit came to its end. A stop at any moment of it leaves a table of the one state or of the other.
pub record Turns {D T : Type 0} (state : D → DiskState) (old new : Core D) (s : State) (t : Table) (jobs : List (ℕ × Job)) (result : Result T Refusal) : Type 0 where
  pub after_it : State
  pub is : TurnsInto result s t jobs after_it
  pub shows : Shows state new after_it
  pub survives : Survives (state new.vault.disk).images HoldsTable (state old.vault.disk).moment (state new.vault.disk).moment s after_it
  pub past : KeepsPast (state old.vault.disk) (state new.vault.disk)
  pub cause : IfErr result (λ e. (e ≡ Device) ⊎ (e ≡ InDoubt) → HasFailed (state old.vault.disk) (state new.vault.disk))
  -- in doubt only after a next root was whole
  pub doubt : IfErr result (λ e. e ≡ InDoubt → WasNextKept (state old.vault.disk) (state new.vault.disk))
  -- a store that keeps what is replaced leaves each older file alone
  pub kept : old.keeps ≡ true → KeepsFiles state old new (IsOlderFile s)
