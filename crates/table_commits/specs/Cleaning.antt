-- What cleaning leaves.
use Rattle.std.specs.Prelude.{◌≡◌, ◌≢◌, ◌<◌, ◌^◌, ℕ, true, false, List, Some, Result, IfOk, OnOk}
use Rattle.std.specs.List.{AllByRecursion}
use Rattle.bits.specs.declared.refusal.Refusal.{Refusal}
use Rattle.schema.specs.Keys.{KeyColumn}
use Rattle.disk.specs.State.{State as DiskState, content}
use Rattle.vault.specs.Views.{IsNoFile}
use Rattle.partition.specs.Folders.{CanPartition, part_path_of}
use Rattle.manifest.specs.Groups.{Group as FileGroup, root_of}
use Rattle.snapshots.specs.State.{State as Versions, File, file_of, is_needed}
use Rattle.snapshots.specs.Views.{state_of}
use Rattle.table.specs.Table.{Key}
use Rattle.table.specs.State.{State}
use Rattle.table.specs.Stops.{Survives}
use Rattle.table_state.specs.declared.standing.Core.{Core}
use Rattle.table_state.specs.OnDisk.{HoldsTable}
use Rattle.table_state.specs.Stands.{Shows, Stands}
use Rattle.table_state.specs.Promises.{KeepsPast}
use Rattle.table_commits.specs.Writing.{IsSameUse}

-- nothing needs the file of any of these groups, and each has a number that was given
abbrev pub AreUnneeded : Versions → ℕ → List FileGroup → Type 0
AreUnneeded versions count groups = AllByRecursion (λ (g : FileGroup). (is_needed versions (file_of g) ≡ false) × (g.number < count)) groups

-- The store shows the state that it showed before the cleaning, and a stop at any moment of the cleaning leaves that state's table.
pub record Clears {D : Type 0} (state : D → DiskState) (old new : Core D) (s : State) : Type 0 where
  pub shows : Shows state new s
  pub survives : Survives (state new.vault.disk).images HoldsTable (state old.vault.disk).moment (state new.vault.disk).moment s s
  pub past : KeepsPast (state old.vault.disk) (state new.vault.disk)

-- the same is in use, no file is tracked that was not, and each that is needed still is
pub record TracksNoMore (old new : Versions) : Type 0 where
  pub in_use : IsSameUse old new
  pub files : (f : File) → new.files f ≡ true → old.files f ≡ true
  pub needed : (f : File) → old.files f ≡ true → is_needed old f ≡ true → new.files f ≡ true

-- what the new disk reads as a file, the old one read so too
abbrev pub ReadsNoMore : DiskState → DiskState → Type 0
ReadsNoMore old new = (path bytes : List ℕ) → content new.seen path ≡ Some bytes → content old.seen path ≡ Some bytes

-- a table with these key columns can have a group of this key, and no file is read at the path of its part file
abbrev pub HasNoPart : DiskState → List KeyColumn → FileGroup → Type 0
HasNoPart disk keys g = CanPartition keys g.key × IsNoFile disk (part_path_of keys g.key g.number)

-- The part files of these groups are gone, and no file came.
pub record AreForgotten (keys : List KeyColumn) (groups : List FileGroup) (old new : DiskState) : Type 0 where
  pub fewer : ReadsNoMore old new
  pub gone : AllByRecursion (HasNoPart new keys) groups

-- Each part file that the disk reads in a key folder is needed: the table names it, or the version of an open cursor or job does, or
-- an open job wrote it.
abbrev pub AreNeeded : DiskState → List KeyColumn → Versions → Type 0
AreNeeded disk keys versions = (key : Key) (number : ℕ) → CanPartition keys key → number < 2 ^ 64 → (bytes : List ℕ)
    → content disk.seen (part_path_of keys key number) ≡ Some bytes → is_needed versions (record { number = number; key = key }) ≡ true

-- No part file stands in a key folder that nothing needs, if no cleaning met a fault since one of the whole dataset.
abbrev pub IsTidy : {D : Type 0} → (D → DiskState) → Core D → Type 0
IsTidy state store = store.clean ≡ true → AreNeeded (state store.vault.disk) (root_of store.manifest).keys (state_of store.snapshots)

-- On an honest disk, after Ok, in a store that does not keep what is replaced: no part file stands that nothing needs.
abbrev pub LeavesTidy : {D T : Type 0} → (D → DiskState) → Core D → Core D → Result T Refusal → Type 0
LeavesTidy state old new result = (state old.vault.disk).honest → (s : State) → Stands state old s → old.keeps ≡ false → OnOk result (IsTidy state new)

-- the same, if the number that is returned is not 0
abbrev pub LeavesTidyOverRows : {D : Type 0} → (D → DiskState) → Core D → Core D → Result ℕ Refusal → Type 0
LeavesTidyOverRows state old new result =
    (state old.vault.disk).honest → (s : State) → Stands state old s → old.keeps ≡ false → IfOk result (λ n. n ≢ 0 → IsTidy state new)
