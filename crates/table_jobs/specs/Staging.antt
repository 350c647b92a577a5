-- Whether a job is an append; and what such a job brings, once all its groups are written.
use Rattle.std.specs.Prelude.{◌≡◌, ◌≢◌, ◌≤◌, ◌<◌, ℕ, Bool, true, false, ◌&&◌, nat_eq, List, [], length, Option, Some, None, IsTrue}
use Rattle.std.specs.List.{AllByRecursion}
use Rattle.schema.specs.Keys.{AreDistinct, key_of_row, without_keys}
use Rattle.disk.specs.State.{State as DiskState}
use Rattle.manifest.specs.Groups.{Group as FileGroup, root_of}
use Rattle.manifest.specs.Laid.{IsRootTooHeavy}
use Rattle.manifest.specs.Records.{IsGroup}
use Rattle.snapshots.specs.State.{Pins, open_at as pinned_at}
use Rattle.snapshots.specs.Views.{state_of}
use Rattle.planning.specs.Told.{numbers_of}
use Rattle.table.specs.Table.{Row, Group, IsGroupIn, rows}
use Rattle.table.specs.InOrder.{in_order}
use Rattle.table.specs.Commits.{are_full}
use Rattle.table.specs.State.{State, appending, open_at, ended_at}
use Rattle.table.specs.Calls.{commit}
use Rattle.table.specs.Checks.{fault}
use Rattle.table.specs.Leading.{Rises}
use Rattle.table.specs.Limits.{IsOver}
use Rattle.table_state.specs.declared.standing.Core.{Core}
use Rattle.table_state.specs.Stands.{AreStored, Stands}
use Rattle.table_commits.specs.Writing.{counted}
use Rattle.table_commits.specs.Committing.{with_version, IsPlanned, ShowsJobsLeft}
use Rattle.table_commits.specs.Acting.{WroteTo, AsksCommit}
use Rattle.table_commits.specs.Bringing.{PlacesInOrder, PlacesDistinct, files_with, grown}
use Rattle.table_state.specs.declared.jobs.OpenJob.{OpenJob}
use Rattle.table_state.specs.declared.jobs.Work.{Work}
use Rattle.table_state.specs.declared.jobs.Work.TheVariants.{Append, Rewrite}

-- whether the work of a job is an append
abbrev pub is_append : Work → Bool
is_append (Append a) = true
is_append (Rewrite r) = false

-- whether there is a job, and it is an append
abbrev pub finds_append : Option OpenJob → Bool
finds_append None = false
finds_append (Some j) = is_append j.work

-- whether the work of a job is an append of which nothing is written, and nothing waits, or a rewrite of no sources
abbrev pub is_nothing : Work → Bool
is_nothing (Append a) = nat_eq (length a.written.items) 0 && nat_eq (length a.waiting.items) 0
is_nothing (Rewrite r) = nat_eq (length r.runs.items) 0

-- whether there is a job, and its commit would have nothing to do
abbrev pub finds_nothing : Option OpenJob → Bool
finds_nothing None = false
finds_nothing (Some j) = is_nothing j.work

-- All groups of the append that is this job are written, under numbers that no table had. This next number is above them
-- all. The jobs that are left wrote none of them.
pub record IsJobBrought {D : Type 0} (state : D → DiskState) (store : Core D) (s : State) (counter : ℕ) (n : ℕ) (staged : List Row) (come : List FileGroup) (added : List Group) (next : ℕ) : Type 0 where
  pub is_open : open_at n s.jobs ≡ Some (appending staged)
  pub pins : Pins
  pub pinned : pinned_at n (state_of store.snapshots).jobs ≡ Some pins
  pub free : pins.sources ≡ []
  pub stored : AreStored (state store.vault.disk) s.table.keys s.table.schema counter come added
  pub described : AllByRecursion (IsGroup s.table.keys (without_keys s.table.keys s.table.schema)) come
  pub each : AllByRecursion (IsGroupIn s.table.schema s.table.keys) added
  pub fresh : AllByRecursion (λ (g : FileGroup). s.had g.number ≡ false) come
  pub distinct : AreDistinct (numbers_of come)
  pub some : added ≢ []
  pub hold : rows added ≡ in_order (key_of_row s.table.keys) staged
  pub full : IsTrue (are_full s.options.group_rows added)
  pub rises : Rises s (commit n) counter
  pub never_falls : s.table.next ≤ next
  pub below : AllByRecursion (λ (g : FileGroup). g.number < next) come
  pub covered : next ≤ counter
  pub left : ShowsJobsLeft (state store.vault.disk) store (counted s counter) (grown s added next) (Some n) (ended_at n s.jobs)

-- Where a staged append's groups are written (`IsJobBrought`), its commit may be made, the call asks for it, and a root that is too heavy
-- is one of a table that is too much.
pub record StagedIsReady {D : Type 0} (state : D → DiskState) (mid : Core D) (s : State) (counter : ℕ) (n : ℕ) (staged : List Row) (come : List FileGroup) (added : List Group) (next : ℕ) : Type 0 where
  pub planned : IsPlanned (state mid.vault.disk) mid (counted s counter) (grown s added next) (ended_at n s.jobs) (Some n) (with_version (root_of mid.manifest) (files_with mid come) next)
  pub asks : fault s (commit n) ≡ None → AsksCommit s (commit n) (length staged) (grown s added next) counter
  pub over : IsRootTooHeavy (with_version (root_of mid.manifest) (files_with mid come) next) → IsOver s (commit n)

-- wherever a call wrote all groups of a staged append, its commit is ready
abbrev pub StagedAreReady : {D : Type 0} → (D → DiskState) → Type 0
StagedAreReady {D} state = (old mid : Core D) (s : State) (counter : ℕ) (n : ℕ) (staged : List Row) (come : List FileGroup) (added : List Group) (next : ℕ)
    → Stands state old s → s.closed ≡ false → WroteTo state old mid s counter → IsJobBrought state mid s counter n staged come added next → PlacesInOrder → PlacesDistinct
    → StagedIsReady state mid s counter n staged come added next
