-- What making and opening a store promise.
use Rattle.std.specs.Prelude.{◌≡◌, ◌≢◌, ◌≤◌, ◌⊎◌, ℕ, List, map, Option, Some, None, Result, Ok, Err}
use Rattle.bits.specs.declared.refusal.Refusal.{Refusal}
use Rattle.bits.specs.declared.refusal.Refusal.TheVariants.{Limit, Key, Exists, Device, InDoubt, Memory}
use Rattle.schema.specs.Shape.{Fields}
use Rattle.schema.specs.Keys.{KeyColumn, AreKeys}
use Rattle.disk.specs.State.{Image, State as DiskState, content, may_leave}
use Rattle.vault.specs.Views.{root_path}
use Rattle.vault.specs.Calls.{LeavesAll}
use Rattle.vault.specs.Ways.{IsClearIn}
use Rattle.footer.specs.declared.options.WriteOptions.{WriteOptions}
use Rattle.footer.specs.Writing.{IsOutOfRange}
use Rattle.manifest.specs.Groups.{Root}
use Rattle.manifest.specs.Root.{RootMeans}
use Rattle.manifest.specs.Table.{TableOf}
use Rattle.recovery.specs.Opening as recovery
use Rattle.table.specs.Table.{Table, empty_table}
use Rattle.table.specs.State.{opened}
use Rattle.table.specs.Weights.{IsRootTooMuch}
use Rattle.table_state.specs.declared.standing.Core.{Core}
use Rattle.table_state.specs.OnDisk.{HoldsTable}
use Rattle.table_state.specs.Spares.{IsPlace, HasRoom}
use Rattle.table_state.specs.Promises.{KeepsPast}
use Rattle.table_state.specs.Stands.{Stands}

-- the disk that the store keeps, or that is handed back
abbrev pub disk_of : {D : Type 0} → Result (Core D) (D × Refusal) → D
disk_of (Ok store) = store.vault.disk
disk_of (Err e) = e.0

-- key columns of these names that can partition a table with these fields
pub record AreNamedKeys (schema : Fields) (names : List (List ℕ)) (keys : List KeyColumn) : Type 0 where
  pub keys_are : AreKeys keys schema
  pub named : map (λ (k : KeyColumn). k.name) keys ≡ names

-- the names are those of key columns
abbrev pub CanKey : Fields → List (List ℕ) → Type 0
CanKey schema names = (keys : List KeyColumn) × AreNamedKeys schema names keys

-- no stop leaves a root
abbrev pub HasNoRoot : DiskState → Type 0
HasNoRoot disk = (c : Image) → may_leave disk c → content c root_path ≡ None

-- A stop at any moment of the call leaves no root, or this table; and room for its files, so that it can be made once more.
pub record LeavesNoneOr (table : Table) (old new : DiskState) : Type 0 where
  pub past : KeepsPast old new
  pub each : (m : ℕ) (c : Image) → old.moment ≤ m → m ≤ new.moment → new.images m c → (content c root_path ≡ None) ⊎ HoldsTable c table
  pub room : (m : ℕ) (c : Image) → old.moment ≤ m → m ≤ new.moment → new.images m c → (path : List ℕ) → IsPlace table.keys path → IsClearIn c path

-- a stop at any moment of the call leaves a table that one before it could have left
pub record LeavesTables (old new : DiskState) : Type 0 where
  pub past : KeepsPast old new
  pub each : (m : ℕ) (c : Image) → old.moment ≤ m → m ≤ new.moment → new.images m c → (table : Table) × HoldsTable c table × (d : Image) × may_leave old d × HoldsTable d table

-- each table that a stop may leave has room for its files
abbrev pub HasRoomForAll : DiskState → Type 0
HasRoomForAll disk = (c : Image) (t : Table) → may_leave disk c → TableOf (content c) t → HasRoom t.keys disk

-- what a new table can be refused for, in the order of the checks
abbrev pub IsNotCreated : Fields → List (List ℕ) → WriteOptions → DiskState → Refusal → Type 0
IsNotCreated schema names o disk Key = CanKey schema names → ⊥
IsNotCreated schema names o disk Exists = CanKey schema names × (content disk.seen root_path ≢ None)
IsNotCreated schema names o disk Limit = (keys : List KeyColumn) × AreNamedKeys schema names keys × (content disk.seen root_path ≡ None) × (IsOutOfRange o ⊎ IsRootTooMuch (empty_table schema keys))
IsNotCreated schema names o disk Device = CanKey schema names
IsNotCreated schema names o disk InDoubt = CanKey schema names × (content disk.seen root_path ≡ None)
IsNotCreated schema names o disk Memory = Unit {0}
IsNotCreated schema names o disk _ = ⊥

-- what is asked of a new table
pub record IsCreatable (schema : Fields) (names : List (List ℕ)) (o : WriteOptions) (disk : DiskState) : Type 0 where
  pub keyed : CanKey schema names
  pub absent : content disk.seen root_path ≡ None
  pub in_range : IsOutOfRange o → ⊥

-- The store was opened on a table that a stop could have left before.
pub record IsOpened {D : Type 0} (state : D → DiskState) (disk : DiskState) (o : WriteOptions) (store : Core D) : Type 0 where
  pub table : Table
  pub image : Image
  pub left : may_leave disk image
  pub held : HoldsTable image table
  pub stands : Stands state store (opened o table)

-- what an opening can be refused for, where the root is read as these bytes
abbrev pub IsNotOpened : WriteOptions → Option (List ℕ) → Refusal → Type 0
IsNotOpened o root Limit = IsOutOfRange o ⊎ recovery.IsNotOpened root Limit
IsNotOpened o root e = recovery.IsNotOpened root e

-- the root that the disk reads describes this
abbrev pub ReadsRootAs : DiskState → Root → Type 0
ReadsRootAs disk root = (bytes : List ℕ) × (content disk.seen root_path ≡ Some bytes) × RootMeans bytes root

-- What a refused opening leaves: all as it was; or, where memory ran out after the cleaning, all that the root names, and
-- other files.
abbrev pub LeavesAllOrCleans : DiskState → DiskState → Refusal → Type 0
LeavesAllOrCleans old new e = LeavesAll old new ⊎ ((e ≡ Memory) × (root : Root) × ReadsRootAs old root × recovery.Cleans root old new)
