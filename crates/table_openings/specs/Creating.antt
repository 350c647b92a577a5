-- The first root of a table.
use Rattle.std.specs.Prelude.{◌≡◌, ◌≢◌, ◌⊎◌, List, [], None}
use Rattle.bits.specs.declared.refusal.Refusal.{Refusal}
use Rattle.bits.specs.declared.refusal.Refusal.TheVariants.{Limit, Exists, Device, InDoubt, Memory}
use Rattle.schema.specs.Shape.{Fields}
use Rattle.schema.specs.Keys.{KeyColumn}
use Rattle.disk.specs.State.{State as DiskState, content}
use Rattle.vault.specs.Views.{IsKept, IsRooted, root_path}
use Rattle.footer.specs.declared.options.WriteOptions.{WriteOptions}
use Rattle.footer.specs.Writing.{IsOutOfRange}
use Rattle.manifest.specs.Groups.{Root, root_of}
use Rattle.manifest.specs.Root.{RootMeans, IsDescription}
use Rattle.snapshots.specs.State.{start}
use Rattle.snapshots.specs.Views.{state_of}
use Rattle.table.specs.Table.{Table}
use Rattle.table.specs.Weights.{IsRootTooMuch}
use Rattle.table_openings.specs.declared.creating.First.{First}

-- the description of a table without rows
abbrev pub first_root : Fields → List KeyColumn → Root
first_root schema keys = record { schema = schema; keys = keys; next = 0; groups = [] }

-- what is made ready for a new table
pub record IsFirst (schema : Fields) (keys : List KeyColumn) (first : First) : Type 0 where
  pub described : IsDescription (first_root schema keys)
  pub manifest : root_of first.manifest ≡ first_root schema keys
  pub means : RootMeans first.root.items (first_root schema keys)
  pub versions : state_of first.versions ≡ start []

-- whatever a stop leaves has the new table's root as its root
pub record IsFirstOn (schema : Fields) (keys : List KeyColumn) (first : First) (disk : DiskState) : Type 0 where
  pub is : IsFirst schema keys first
  pub kept : IsKept disk root_path first.root.items
  pub rooted : IsRooted disk

-- why no new table can be made, before it is written
abbrev pub IsNotNew : WriteOptions → DiskState → Refusal → Type 0
IsNotNew o disk Exists = content disk.seen root_path ≢ None
IsNotNew o disk Limit = (content disk.seen root_path ≡ None) × IsOutOfRange o
IsNotNew o disk Device = Unit {0}
IsNotNew o disk Memory = Unit {0}
IsNotNew o disk _ = ⊥

-- why the root of a new table is not written
abbrev pub IsNotPut : Table → Refusal → Type 0
IsNotPut t Limit = IsRootTooMuch t
IsNotPut t Device = Unit {0}
IsNotPut t InDoubt = Unit {0}
IsNotPut t Memory = Unit {0}
IsNotPut t _ = ⊥

-- why no new table is made: it is refused before its root is written, or its root is not written
abbrev pub IsNotFirst : WriteOptions → Table → DiskState → Refusal → Type 0
IsNotFirst o t disk Exists = content disk.seen root_path ≢ None
IsNotFirst o t disk Limit = (content disk.seen root_path ≡ None) × (IsOutOfRange o ⊎ IsRootTooMuch t)
IsNotFirst o t disk Device = Unit {0}
IsNotFirst o t disk InDoubt = content disk.seen root_path ≡ None
IsNotFirst o t disk Memory = Unit {0}
IsNotFirst o t disk _ = ⊥
