-- Which table a description is of, as far as the root's weight goes.
use Rattle.std.specs.Prelude.{◌≡◌, ℕ, List, Option}
use Rattle.std.specs.List.{AllZip, AllByRecursion}
use Rattle.disk.specs.State.{State as DiskState}
use Rattle.manifest.specs.Groups.{Group as FileGroup, Root}
use Rattle.manifest.specs.Root.{stored_of}
use Rattle.manifest.specs.Records.{IsGroup}
use Rattle.manifest.specs.Laid.{IsRootTooHeavy}
use Rattle.table.specs.Table.{Group, Table}
use Rattle.table.specs.Weights.{IsRootTooMuch}
use Rattle.table.specs.State.{State, Job}
use Rattle.table_state.specs.declared.standing.Core.{Core}
use Rattle.table_commits.specs.Committing.{IsPlanned}

-- the group of this description
pub record IsDescribedGroup (file : FileGroup) (g : Group) : Type 0 where
  pub number : g.number ≡ file.number
  pub key : g.key ≡ file.key

-- The description has the table's fields and key columns, and describes its groups.
pub record IsDescribedTable (root : Root) (t : Table) : Type 0 where
  pub schema : root.schema ≡ t.schema
  pub keys : root.keys ≡ t.keys
  pub groups : AllZip IsDescribedGroup root.groups t.groups

-- A root that is too heavy to be written is one of a table whose root is too much.
abbrev pub HeavyRootsAreTooMuch : Type 0
HeavyRootsAreTooMuch = (root : Root) (t : Table) → AllByRecursion (IsGroup root.keys (stored_of root)) root.groups → IsDescribedTable root t → IsRootTooHeavy root → IsRootTooMuch t

-- a planned commit's root that is too heavy to be written is one of a table whose root is too much
abbrev pub PlansAreTooMuch : {D : Type 0} → (D → DiskState) → Type 0
PlansAreTooMuch {D} state = (store : Core D) (s : State) (t : Table) (jobs : List (ℕ × Job)) (job : Option ℕ) (root : Root) → IsPlanned (state store.vault.disk) store s t jobs job root → IsRootTooHeavy root → IsRootTooMuch t
