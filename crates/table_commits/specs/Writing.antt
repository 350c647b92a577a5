-- What writing a part file leaves.
use Rattle.std.specs.Prelude.{◌≡◌, ◌⊎◌, ◌≤◌, ◌+◌, ℕ, true, false, List, Option, Some, None, Result, IfOk, IfErr, string_bytes}
use Rattle.std.specs.Rc.{rc_value}
use Rattle.std.specs.declared.rc.Rc.{Rc}
use Rattle.std.specs.declared.alloc.Global.{Global}
use Rattle.bits.specs.declared.refusal.Refusal.{Refusal}
use Rattle.vault.specs.Calls.{HasFailed}
use Rattle.schema.specs.Shape.{Fields}
use Rattle.schema.specs.Keys.{KeyColumn, without_keys}
use Rattle.disk.specs.State.{State as DiskState}
use Rattle.partition.specs.Folders.{CanPartition, part_path_of}
use Rattle.manifest.specs.Parts.{PartMeans}
use Rattle.manifest.specs.declared.group.Group.{Group as CodeGroup}
use Rattle.manifest.specs.Groups.{Group as FileGroup, Root, group_view, root_of}
use Rattle.manifest.specs.Root.{stored_of}
use Rattle.schema.specs.Fits.{RowsFit}
use Rattle.footer.specs.Writing.{IsOutOfRange, IsTooMuch}
use Rattle.footer.specs.declared.options.WriteOptions.{WriteOptions}
use Rattle.bits.specs.declared.refusal.Refusal.TheVariants as refusal
use Rattle.snapshots.specs.State.{State as Versions, File, Pins, file_of, is_among, job_is_open, open_at}
use Rattle.snapshots.specs.Views.{state_of}
use Rattle.manifest.specs.Records.{IsGroup}
use Rattle.table.specs.Table.{Row, Key, Group}
use Rattle.table.specs.State.{State}
use Rattle.table_state.specs.declared.standing.Core.{Core}
use Rattle.table_commits.specs.declared.part.Part.{Part}
use Rattle.table_state.specs.Paths.{IsOlder}
use Rattle.table_state.specs.Spares.{Spares}
use Rattle.table_state.specs.Stands.{IsStored, Shows, numbers_at}

-- A job holds the version and the sources that it held, and at least the files that it held.
pub record HoldsMore (old new : Pins) : Type 0 where
  pub version : new.version ≡ old.version
  pub sources : new.sources ≡ old.sources
  pub files : (f : File) → is_among old.files f ≡ true → is_among new.files f ≡ true

-- each job that is open holds the version and the sources that it held, and at least the files that it held
abbrev pub HoldMore : List (ℕ × Pins) → List (ℕ × Pins) → Type 0
HoldMore old new = (n : ℕ) (pins : Pins) → open_at n old ≡ Some pins → (more : Pins) × (open_at n new ≡ Some more) × HoldsMore pins more

-- What is in use is the same; but jobs may hold more files.
pub record IsSameUse (old new : Versions) : Type 0 where
  pub current : new.current ≡ old.current
  pub cursors : new.cursors ≡ old.cursors
  pub numbers : numbers_at new.jobs ≡ numbers_at old.jobs
  pub jobs : HoldMore old.jobs new.jobs

-- the group that is written under the next number
abbrev pub new_group : State → Key → List Row → Group
new_group s key rows = record { number = s.next_group; key = key; rows = rows }

-- The state, with another group counter.
abbrev pub counted : State → ℕ → State
counted s count = record s { next_group = count }

-- the group's file is held for the job that it is written for
abbrev pub IsHeldFor : Option ℕ → Versions → FileGroup → Type 0
IsHeldFor None versions g = Unit {0}
IsHeldFor (Some n) versions g = (pins : Pins) × (open_at n versions.jobs ≡ Some pins) × (is_among pins.files (file_of g) ≡ true)

-- From the one state, a part file of these rows was written for a job or for none, or not: the counter went up by one, or
-- not at all; all older files are as they were, at every moment; and after Ok the new one is there.
pub record Writes {D : Type 0} (state : D → DiskState) (old new : Core D) (job : Option ℕ) (key : Key) (rows : List Row) (result : Result (Rc CodeGroup Global) Refusal) (s : State) : Type 0 where
  pub no_less : old.next_group ≤ new.next_group
  pub no_more : new.next_group ≤ old.next_group + 1
  pub keeps : new.keeps ≡ old.keeps
  pub spares : Spares s.table.keys (IsOlder s.table.keys s.next_group) (state old.vault.disk) (state new.vault.disk)
  pub shows : Shows state new (counted s new.next_group)
  pub in_use : IsSameUse (state_of old.snapshots) (state_of new.snapshots)
  pub stored : IfOk result (λ g. IsStored (state new.vault.disk) s.table.keys s.table.schema new.next_group (group_view (rc_value g)) (new_group s key rows))
  pub held : IfOk result (λ g. IsHeldFor job (state_of new.snapshots) (group_view (rc_value g)))
  pub described : IfOk result (λ g. IsGroup s.table.keys (without_keys s.table.keys s.table.schema) (group_view (rc_value g)))
  pub cause : IfErr result (λ e. e ≡ refusal.Device → HasFailed (state old.vault.disk) (state new.vault.disk))

-- A part file of this key and these rows under this number, as it is ready to be written.
pub record IsPartFor (keys : List KeyColumn) (schema : Fields) (number : ℕ) (key : Key) (rows : List Row) (part : Part) : Type 0 where
  pub number_is : (group_view (rc_value part.group)).number ≡ number
  pub key_is : (group_view (rc_value part.group)).key ≡ key
  pub can : CanPartition keys key
  pub described : IsGroup keys (without_keys keys schema) (group_view (rc_value part.group))
  pub path_is : string_bytes part.path ≡ part_path_of keys key number
  pub means : PartMeans keys (without_keys keys schema) (group_view (rc_value part.group)) part.bytes.items rows

-- Why a part file of these rows is not made: the options are out of range, the rows are too much for a file or do not fit
-- the table's files, or their key cannot partition.
abbrev pub IsUnfit : Root → WriteOptions → Key → List Row → Refusal → Type 0
IsUnfit root options key rows refusal.Limit = IsOutOfRange options ⊎ IsTooMuch (stored_of root) options rows
IsUnfit root options key rows refusal.RowShape = RowsFit (stored_of root) rows → ⊥
IsUnfit root options key rows refusal.Key = CanPartition root.keys key → ⊥
IsUnfit root options key rows _ = ⊥

-- Why a part file of these rows is not made for a store's table, by the store's options (`IsUnfit`).
abbrev pub IsUnfitPart : {D : Type 0} → Core D → Key → List Row → Refusal → Type 0
IsUnfitPart store key rows e = IsUnfit (root_of store.manifest) store.options key rows e

-- why a part file is not put: the disk, or the job is not open
abbrev pub IsPutRefusal : Versions → Option ℕ → Refusal → Type 0
IsPutRefusal versions job refusal.Device = Unit {0}
IsPutRefusal versions job refusal.NoJob = job_is_open versions job ≡ false
IsPutRefusal versions job _ = ⊥

-- why a part file of these rows is not written: the disk failed, the job is not open, or the part file is not made
abbrev pub IsPartRefusal : {D : Type 0} → Core D → Option ℕ → Key → List Row → Refusal → Type 0
IsPartRefusal store job key rows refusal.Device = Unit {0}
IsPartRefusal store job key rows refusal.NoJob = job_is_open (state_of store.snapshots) job ≡ false
IsPartRefusal store job key rows e = IsUnfitPart store key rows e
