-- The commit of a rewrite: its sources, the rows that it reads, and the groups that it writes.
use Rattle.std.specs.Prelude.{◌≡◌, ◌≤◌, ◌+◌, ◌*◌, ℕ, suc, true, List, [], ◌∷◌, ◌++◌, map, length, drop, option_map, Option, Some, None, Result, Ok, Err}
use Rattle.std.specs.List.{AllByRecursion, slice_get}
use Rattle.std.specs.declared.vec.Vec.{Vec}
use Rattle.std.specs.declared.alloc.Global.{Global}
use Rattle.bits.specs.declared.refusal.Refusal.{Refusal}
use Rattle.bits.specs.declared.refusal.Refusal.TheVariants.{Limit, Device, Memory}
use Rattle.schema.specs.Fronts.{padded}
use Rattle.schema.specs.Keys.{without_keys, row_without_keys}
use Rattle.schema.specs.Views.{key_view, rows_view}
use Rattle.schema.specs.declared.row.Row.{Row as CodeRow}
use Rattle.disk.specs.State.{State as DiskState}
use Rattle.gather.specs.declared.key_buffer.KeyBuffer.{KeyBuffer}
use Rattle.gather.specs.KeyBuffers.{HoldsRows}
use Rattle.vault.specs.Calls.{HasFailed}
use Rattle.partition.specs.Folders.{CanPartition}
use Rattle.manifest.specs.Groups.{Group as FileGroup, numbers_of}
use Rattle.manifest.specs.Records.{IsGroup}
use Rattle.planning.specs.Replaced.{Run, run_view, runs_view}
use Rattle.planning.specs.declared.change.Run.{Run as CodeRun}
use Rattle.planning.specs.Numbered.{brought_by}
use Rattle.planning.specs.Runs.{sources_view}
use Rattle.table.specs.Table.{Row, Key, Group, IsGroupIn, IsRowIn, rows, numbers}
use Rattle.table.specs.Commits.{are_full}
use Rattle.table.specs.State.{State, sources}
use Rattle.table.specs.Limits.{IsFileTooMuch, IsPart, IsOfRun}
use Rattle.table_state.specs.declared.standing.Core.{Core}
use Rattle.table_state.specs.declared.jobs.OpenJob.{OpenJob}
use Rattle.table_state.specs.declared.jobs.Work.{Work}
use Rattle.table_state.specs.declared.jobs.Work.TheVariants.{Append, Rewrite}
use Rattle.table_state.specs.declared.jobs.Rewriting.{Rewriting}
use Rattle.table_state.specs.Lookups.{job_at}
use Rattle.table_state.specs.Stands.{IsStored}
use Rattle.table_commits.specs.Acting.{WroteTo}
use Rattle.table_commits.specs.Filling.{HasWritten, HasSize, written_group, Goes}

-- ---- the job

-- the job of this number is this rewrite
abbrev pub IsRewriteAt : ℕ → List OpenJob → Rewriting → Type 0
IsRewriteAt n jobs r = (x : OpenJob) × (job_at n jobs ≡ Some x) × (x.work ≡ Rewrite r)

-- the runs of sources of a rewrite; none of an append
abbrev pub runs_of_work : Work → List (List FileGroup)
runs_of_work (Append a) = []
runs_of_work (Rewrite r) = sources_view r.runs.items

-- the runs of sources of a job; none where there is no job, or it is an append
abbrev pub runs_at : Option OpenJob → List (List FileGroup)
runs_at None = []
runs_at (Some j) = runs_of_work j.work

-- the numbers of the sources, run by run
abbrev pub numbers_of_runs : List (List FileGroup) → List ℕ
numbers_of_runs [] = []
numbers_of_runs (fs ∷ fss) = numbers_of fs ++ numbers_of_runs fss

-- the rows that a rewrite has read of the source at a place, over all its runs; None where it has not read that source
abbrev pub kept_of_work : ℕ → Work → Option (List Row)
kept_of_work place (Append a) = None
kept_of_work place (Rewrite r) = option_map (λ (v : Vec CodeRow Global). rows_view v.items) (slice_get r.read.items place)

-- the rows that a job has read of the source at a place, over all its runs; None where there is no job, or it has not read that source
abbrev pub kept_at : ℕ → Option OpenJob → Option (List Row)
kept_at place None = None
kept_at place (Some j) = kept_of_work place j.work

-- ---- its sources

-- The file of a source is there; what was read of it are its rows, but for fields that were added since.
pub record IsSource (disk : DiskState) (s : State) (kept : Option (List Row)) (f : FileGroup) (g : Group) : Type 0 where
  pub stored : IsStored disk s.table.keys s.table.schema s.next_group f g
  pub described : IsGroup s.table.keys (without_keys s.table.keys s.table.schema) f
  pub read : (given : List Row) → kept ≡ Some given → map (padded s.table.schema) given ≡ g.rows

-- the files are sources of these groups; the first has this place over all runs
abbrev pub AreSources : DiskState → State → Option OpenJob → ℕ → List FileGroup → List Group → Type 0
AreSources disk s job place [] [] = Unit {0}
AreSources disk s job place (f ∷ fs) (g ∷ gs) = IsSource disk s (kept_at place job) f g × AreSources disk s job (suc place) fs gs
AreSources disk s job place _ _ = ⊥

-- groups of one key that a table can have, one at least
pub record IsRunIn (s : State) (run : List Group) : Type 0 where
  pub some : 1 ≤ length (rows run)
  pub key : Key
  pub keyed : AllByRecursion (λ (g : Group). g.key ≡ key) run
  pub each : AllByRecursion (IsGroupIn s.table.schema s.table.keys) run

-- the files are sources of these groups, run by run; the first has this place over all runs, and each run can be one of the table
abbrev pub AreRuns : DiskState → State → Option OpenJob → ℕ → List (List FileGroup) → List (List Group) → Type 0
AreRuns disk s job place [] [] = Unit {0}
AreRuns disk s job place (fs ∷ fss) (run ∷ runs) = AreSources disk s job place fs run × IsRunIn s run × AreRuns disk s job (place + length fs) fss runs
AreRuns disk s job place _ _ = ⊥

-- ---- why it does not go on

-- why a rewrite stopped: the disk failed, or the file of one of these parts is too much
abbrev pub WhyHalted : {D : Type 0} → (D → DiskState) → Core D → Core D → State → (List Row → Type 0) → Refusal → Type 0
WhyHalted state start new s Part Device = HasFailed (state start.vault.disk) (state new.vault.disk)
WhyHalted state start new s Part Limit = (part : List Row) × Part part × IsFileTooMuch s part
WhyHalted state start new s Part Memory = Unit {0}
WhyHalted state start new s Part e = ⊥

-- A rewrite stopped: since its start the call wrote files under numbers below this one.
pub record IsHalted {D : Type 0} (state : D → DiskState) (start new : Core D) (s : State) (Part : List Row → Type 0) (most : ℕ) (e : Refusal) : Type 0 where
  pub wrote : WroteTo state start new s new.next_group
  pub no_more : new.next_group ≤ most
  pub why : WhyHalted state start new s Part e

-- ---- its groups

-- groups have this key and together these rows in their order, and are full (`are_full`)
pub record Hold (s : State) (key : Key) (given : List Row) (groups : List Group) : Type 0 where
  pub hold : rows groups ≡ given
  pub keyed : AllByRecursion (λ (g : Group). g.key ≡ key) groups
  pub each : AllByRecursion (IsGroupIn s.table.schema s.table.keys) groups
  pub full : are_full s.options.group_rows groups ≡ true

-- The rows of one key are written behind the other groups.
pub record HasAdded {D : Type 0} (state : D → DiskState) (start new : Core D) (s : State) (job : Option ℕ) (was files : List FileGroup) (groups : List Group) (key : Key) (given : List Row) (most : ℕ) : Type 0 where
  pub added : List Group
  pub written : HasWritten state start new s job files (groups ++ added)
  pub holds : Hold s key given added
  pub goes : Goes was files
  pub no_more : new.next_group ≤ most

-- The rows of one key are written behind the other groups; or the rewrite stopped, at one of their parts.
abbrev pub AddsAll : {D T : Type 0} → (D → DiskState) → Core D → Core D → State → Option ℕ → List FileGroup → List FileGroup → List Group → Key → List Row → ℕ → Result T Refusal → Type 0
AddsAll state start new s job was files groups key given most (Ok x) = HasAdded state start new s job was files groups key given most
AddsAll state start new s job was files groups key given most (Err e) = IsHalted state start new s (IsPart s.options.group_rows given) most e

-- The rows of one key are written behind the other groups, as one group under this number.
pub record HasAddedOne {D : Type 0} (state : D → DiskState) (start new : Core D) (s : State) (job : Option ℕ) (was files : List FileGroup) (groups : List Group) (number : ℕ) (key : Key) (given : List Row) : Type 0 where
  pub written : HasWritten state start new s job files (groups ++ written_group number key given ∷ [])
  pub goes : Goes was files
  pub no_more : new.next_group ≤ number + 1

-- The rows of one key are written as one group under this number; or the rewrite stopped, at these rows.
abbrev pub AddsOne : {D T : Type 0} → (D → DiskState) → Core D → Core D → State → Option ℕ → List FileGroup → List FileGroup → List Group → ℕ → Key → List Row → Result T Refusal → Type 0
AddsOne state start new s job was files groups number key given (Ok x) = HasAddedOne state start new s job was files groups number key given
AddsOne state start new s job was files groups number key given (Err e) = IsHalted state start new s (λ part. part ≡ given) (number + 1) e

-- ---- part by part

-- The rows of one key that are to be written behind these groups, whose files are these, under numbers below this one.
pub record Task : Type 0 where
  pub was : List FileGroup
  pub groups : List Group
  pub key : Key
  pub given : List Row
  pub most : ℕ

-- So far i parts are written, and the rows behind them are left.
pub record Parts {D : Type 0} (state : D → DiskState) (start mid : Core D) (s : State) (n : ℕ) (was files : List FileGroup) (groups : List Group) (key : Key) (given : List Row) (most i : ℕ) (left : List Row) : Type 0 where
  pub added : List Group
  pub written : HasWritten state start mid s (Some n) files (groups ++ added)
  pub goes : Goes was files
  pub left_is : left ≡ drop (i * s.options.group_rows) given
  pub hold : rows added ++ left ≡ given
  pub keyed : AllByRecursion (λ (g : Group). g.key ≡ key) added
  pub each : AllByRecursion (IsGroupIn s.table.schema s.table.keys) added
  pub full : are_full s.options.group_rows added ≡ true
  pub sized : 1 ≤ length left → AllByRecursion (HasSize s.options.group_rows) added
  pub no_more : mid.next_group + length left ≤ most

-- So far parts of the rows are written, the next rows wait in a buffer, which has room for at least so many before they are
-- more than a group has, and these are still to come.
pub record AreUnderWay {D : Type 0} (state : D → DiskState) (start now : Core D) (s : State) (n : ℕ) (task : Task) (files : List FileGroup) (waiting : KeyBuffer) (left : List Row) (room : ℕ) : Type 0 where
  pub held : List Row
  pub count : ℕ
  pub parts : Parts state start now s n task.was files task.groups task.key task.given task.most count (held ++ left)
  pub can : CanPartition s.table.keys task.key
  pub rows_in : AllByRecursion (IsRowIn s.table.schema s.table.keys task.key) task.given
  pub key_is : key_view waiting.key ≡ task.key
  pub buffer : HoldsRows (without_keys s.table.keys s.table.schema) (map (row_without_keys s.table.keys) held) waiting
  pub few : length held + room ≤ s.options.group_rows

-- The rows are under way; or the rewrite stopped, at one of their parts.
abbrev pub StaysUnderWay : {D T : Type 0} → (D → DiskState) → Core D → Core D → State → ℕ → Task → List FileGroup → KeyBuffer → List Row → ℕ → Result T Refusal → Type 0
StaysUnderWay state start new s n task files waiting left room (Ok x) = AreUnderWay state start new s n task files waiting left room
StaysUnderWay state start new s n task files waiting left room (Err e) = IsHalted state start new s (IsPart s.options.group_rows task.given) task.most e

-- ---- run by run

-- these groups come in the place of a run of sources of one key, and have its rows
pub record IsNew (s : State) (r : Run) (run groups : List Group) : Type 0 where
  pub named : r.sources ≡ numbers run
  pub as_many : length r.come ≡ length groups
  pub some : 1 ≤ length (rows run)
  pub key : Key
  pub keyed : AllByRecursion (λ (g : Group). g.key ≡ key) run
  pub holds : Hold s key (rows run) groups

-- for each run, these groups come in its place
abbrev pub AreNew : State → List Run → List (List Group) → List (List Group) → Type 0
AreNew s [] [] [] = Unit {0}
AreNew s (r ∷ rs) (run ∷ runs) (gs ∷ gss) = IsNew s r run gs × AreNew s rs runs gss
AreNew s _ _ _ = ⊥

-- The new groups of these runs are written.
pub record HasRewritten {D : Type 0} (state : D → DiskState) (start new : Core D) (s : State) (job : Option ℕ) (files : List FileGroup) (made : List Run) (runs : List (List Group)) : Type 0 where
  pub groups : List (List Group)
  pub written : HasWritten state start new s job files (sources groups)
  pub come : brought_by made ≡ files
  pub are_new : AreNew s made runs groups
  pub no_more : new.next_group ≤ s.next_group + length (rows (sources runs))

-- The new groups of one run more are written.
pub record HasRewrittenOne {D : Type 0} (state : D → DiskState) (start new : Core D) (s : State) (job : Option ℕ) (was files : List FileGroup) (groups : List Group) (r : Run) (run : List Group) (most : ℕ) : Type 0 where
  pub added : List Group
  pub written : HasWritten state start new s job files (groups ++ added)
  pub come : files ≡ was ++ r.come
  pub is_new : IsNew s r run added
  pub no_more : new.next_group ≤ most

-- The new groups of one run more are written, under numbers from this one on; or the rewrite stopped.
abbrev pub RewritesOne : {D : Type 0} → (D → DiskState) → Core D → Core D → State → Option ℕ → List FileGroup → List FileGroup → List Group → List Group → ℕ → Result CodeRun Refusal → Type 0
RewritesOne state start new s job was files groups run number (Ok r) = HasRewrittenOne state start new s job was files groups (run_view r) run (number + length (rows run))
RewritesOne state start new s job was files groups run number (Err e) = IsHalted state start new s (IsPart s.options.group_rows (rows run)) (number + length (rows run)) e

-- The new groups of all these runs are written; or the rewrite stopped.
abbrev pub RewritesAll : {D : Type 0} → (D → DiskState) → Core D → Core D → State → Option ℕ → List FileGroup → List (List Group) → Result (Vec CodeRun Global) Refusal → Type 0
RewritesAll state start new s job files runs (Ok made) = HasRewritten state start new s job files (runs_view made.items) runs
RewritesAll state start new s job files runs (Err e) = IsHalted state start new s (IsOfRun s runs) (s.next_group + length (rows (sources runs))) e
