-- Where the part files that a store writes stand, beside files that others may be reading; and which calls change no file.
use Rattle.std.specs.Prelude.{◌≡◌, ◌≢◌, ℕ, List, true, false, Contains}
use Rattle.disk.specs.State.{State as DiskState}
use Rattle.vault.specs.Calls.{LeavesAll}
use Rattle.vault.specs.Views.{root_path, next_path}
use Rattle.partition.specs.Folders.{CanPartition, part_path_of}
use Rattle.manifest.specs.Groups.{Group as FileGroup, root_of}
use Rattle.manifest.specs.Table.{path_of_group}
use Rattle.snapshots.specs.State.{File}
use Rattle.snapshots.specs.Views.{state_of}
use Rattle.table.specs.Table.{Key}
use Rattle.table.specs.State.{State}
use Rattle.table_state.specs.declared.standing.Core.{Core}
use Rattle.table_state.specs.Stands.{Stands}

-- No file that may be in use is at this path: neither the root nor the next root; no group's that the present root names; none of a
-- number that a table had since the opening, or that was below its next number then; and none that a job or a commit wrote.
pub record IsFreePath {D : Type 0} (store : Core D) (s : State) (path : List ℕ) : Type 0 where
  pub root : path ≢ root_path
  pub next : path ≢ next_path
  pub named : (g : FileGroup) → Contains (root_of store.manifest).groups g → path_of_group (root_of store.manifest) g ≢ path
  pub had : (key : Key) (n : ℕ) → CanPartition s.table.keys key → s.had n ≡ true → part_path_of s.table.keys key n ≢ path
  pub written : (f : File) → CanPartition s.table.keys f.key → (state_of store.snapshots).files f ≡ true → part_path_of s.table.keys f.key f.number ≢ path

-- the part file of whatever key that an open store writes next, which is the one of the number that it gives next, is at a free path
abbrev pub NewFilesAreFree : {D : Type 0} → (D → DiskState) → Type 0
NewFilesAreFree {D} state = (store : Core D) (s : State) → Stands state store s → s.closed ≡ false → (key : Key) → CanPartition s.table.keys key
    → IsFreePath store s (part_path_of s.table.keys key store.next_group)

-- A call that changes no file and no folder; the store keeps what is replaced after it if it did before.
pub record LeavesFiles {D : Type 0} (state : D → DiskState) (old new : Core D) : Type 0 where
  pub leaves : (state old.vault.disk).honest → LeavesAll (state old.vault.disk) (state new.vault.disk)
  pub keeps : new.keeps ≡ old.keeps

-- A call that writes nothing: of the store only the disk changes, and of an honest disk no file and no folder.
pub record Unwritten {D : Type 0} (state : D → DiskState) (old new : Core D) : Type 0 where
  pub leaves : (state old.vault.disk).honest → LeavesAll (state old.vault.disk) (state new.vault.disk)
  pub same : new ≡ record old { vault = new.vault }
