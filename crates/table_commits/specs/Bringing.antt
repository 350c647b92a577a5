-- What an append brings, once its groups are written.
use Rattle.std.specs.Prelude.{◌≡◌, ◌≢◌, ◌≤◌, ◌<◌, ℕ, List, [], ◌++◌, length, false, None, IsTrue}
use Rattle.std.specs.List.{AllByRecursion}
use Rattle.schema.specs.Keys.{AreDistinct, key_of_row, without_keys}
use Rattle.partition.specs.Order.{AreInTableOrder}
use Rattle.disk.specs.State.{State as DiskState}
use Rattle.manifest.specs.Groups.{Group as FileGroup, root_of, keys_of}
use Rattle.manifest.specs.Laid.{IsRootTooHeavy}
use Rattle.manifest.specs.Records.{IsGroup}
use Rattle.planning.specs.Told.{numbers_of}
use Rattle.table.specs.Table.{Row, Group, Table, IsGroupIn, rows}
use Rattle.table.specs.InOrder.{in_order}
use Rattle.table.specs.Commits.{are_full}
use Rattle.table.specs.State.{State}
use Rattle.table.specs.Calls.{append}
use Rattle.table.specs.Checks.{fault}
use Rattle.table.specs.Leading.{Rises}
use Rattle.table.specs.Limits.{IsOver}
use Rattle.table_state.specs.declared.standing.Core.{Core}
use Rattle.table_state.specs.Stands.{AreStored, Stands}
use Rattle.table_commits.specs.Writing.{counted}
use Rattle.table_commits.specs.Committing.{with_version, IsPlanned}
use Rattle.table_commits.specs.Acting.{WroteTo, AsksCommit}

-- a law of `planning`: groups that were put in order by their keys stand in table order
abbrev pub PlacesInOrder : Type 0
PlacesInOrder = (gs : List FileGroup) → AreInTableOrder (keys_of (in_order (λ (g : FileGroup). g.key) gs))

-- a law of `planning`: the numbers of groups stay distinct where the groups are put in order by their keys
abbrev pub PlacesDistinct : Type 0
PlacesDistinct = (gs : List FileGroup) → AreDistinct (numbers_of gs) → AreDistinct (numbers_of (in_order (λ (g : FileGroup). g.key) gs))

-- The groups of an append of these rows are written, under numbers from the counter of the call's start on. This next
-- number is above them all.
pub record IsBrought {D : Type 0} (state : D → DiskState) (store : Core D) (s : State) (counter : ℕ) (given : List Row) (come : List FileGroup) (added : List Group) (next : ℕ) : Type 0 where
  pub stored : AreStored (state store.vault.disk) s.table.keys s.table.schema counter come added
  pub described : AllByRecursion (IsGroup s.table.keys (without_keys s.table.keys s.table.schema)) come
  pub each : AllByRecursion (IsGroupIn s.table.schema s.table.keys) added
  pub above : AllByRecursion (λ (g : FileGroup). s.next_group ≤ g.number) come
  pub distinct : AreDistinct (numbers_of come)
  pub some : added ≢ []
  pub hold : rows added ≡ in_order (key_of_row s.table.keys) given
  pub full : IsTrue (are_full s.options.group_rows added)
  pub rises : Rises s (append given) counter
  pub never_falls : s.table.next ≤ next
  pub below : AllByRecursion (λ (g : FileGroup). g.number < next) come
  pub covered : next ≤ counter

-- the groups of the version that an append brings: those of the table and those that come, in table order
abbrev pub files_with : {D : Type 0} → Core D → List FileGroup → List FileGroup
files_with store come = in_order (λ (g : FileGroup). g.key) ((root_of store.manifest).groups ++ come)

-- the table that an append brings: its groups and the added ones, in table order, and this next number
abbrev pub grown : State → List Group → ℕ → Table
grown s added next = record s.table { groups = in_order (λ (g : Group). g.key) (s.table.groups ++ added); next = next }

-- From a state, a call wrote the groups of an append of these rows.
pub record Brings {D : Type 0} (state : D → DiskState) (old mid : Core D) (s : State) (counter : ℕ) (given : List Row) (come : List FileGroup) (added : List Group) (next : ℕ) : Type 0 where
  pub stands : Stands state old s
  pub is_open : s.closed ≡ false
  pub wrote : WroteTo state old mid s counter
  pub brought : IsBrought state mid s counter given come added next
  pub ordered : PlacesInOrder
  pub parted : PlacesDistinct

-- Where an append's groups are written (`Brings`), its commit may be made, the call asks for it, and a root that is too heavy is one
-- of a table that is too much.
pub record AppendIsReady {D : Type 0} (state : D → DiskState) (mid : Core D) (s : State) (counter : ℕ) (given : List Row) (come : List FileGroup) (added : List Group) (next : ℕ) : Type 0 where
  pub planned : IsPlanned (state mid.vault.disk) mid (counted s counter) (grown s added next) s.jobs None (with_version (root_of mid.manifest) (files_with mid come) next)
  pub asks : fault s (append given) ≡ None → AsksCommit s (append given) (length given) (grown s added next) counter
  pub over : IsRootTooHeavy (with_version (root_of mid.manifest) (files_with mid come) next) → IsOver s (append given)

-- wherever a call wrote the groups of an append, its commit is ready
abbrev pub AppendsAreReady : {D : Type 0} → (D → DiskState) → Type 0
AppendsAreReady {D} state = (old mid : Core D) (s : State) (counter : ℕ) (given : List Row) (come : List FileGroup) (added : List Group) (next : ℕ) → Brings state old mid s counter given come added next → AppendIsReady state mid s counter given come added next
