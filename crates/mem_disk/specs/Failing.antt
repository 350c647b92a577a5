-- What a call that fails has done of what it can do.
use Rattle.std.specs.Prelude.{◌≡◌, ◌≢◌, ◌⊎◌, ℕ, ◌/◌, List, length, take, false, Result, IsErrOf}
use Rattle.disk.specs.Paths.{folder_of}
use Rattle.disk.specs.State.{Image}
use Rattle.disk.specs.declared.binding.Binding.TheVariants as binding
use Rattle.disk.specs.declared.fault.Fault.{Fault}
use Rattle.disk.specs.declared.fault.Fault.TheVariants.{Failed}
use Rattle.mem_disk.specs.declared.call.Call.{Call}
use Rattle.mem_disk.specs.declared.fuse.Done.{Done}
use Rattle.mem_disk.specs.declared.fuse.Done.TheVariants.{Nothing, Whole, Part}
use Rattle.mem_disk.specs.declared.fuse.Trip.{Trip}
use Rattle.mem_disk.specs.declared.fuse.Trip.TheVariants.{Fails}
use Rattle.mem_disk.specs.Loose.{Loose, empty, replayed, bound, appended, node_synced, node_doubted}

-- What each pick makes of a disk.

-- a step that has no part: it is taken, or not
abbrev pub taken : (Loose → Loose) → Done → Loose → Loose
taken step Nothing l = l
taken step Whole l = step l
taken step Part l = step l

-- a part of what is appended is its first half, rounded down to whole bytes
abbrev pub written : ℕ → List ℕ → Done → Loose → Loose
written node bytes Nothing l = l
written node bytes Whole l = appended l node bytes
written node bytes Part l = appended l node (take (length bytes / 2) bytes)

-- a part of a rename is the target's name only
abbrev pub moved : List ℕ → List ℕ → Done → Loose → Loose
moved source target Nothing l = l
moved source target Whole l = bound (bound l target (l.names source)) source binding.Nothing
moved source target Part l = bound l target (l.names source)

-- a sync that fails leaves doubt, whatever it has done
abbrev pub doubtful : ℕ → Done → Loose → Loose
doubtful node done l = node_doubted (taken (λ x. node_synced x node) done l) node

-- a call that fails with this pick makes this of the disk, or was out of memory
abbrev pub HasDone : (Done → Loose → Loose) → Trip → List Call → List Call → Type 0 → Type 0
HasDone step trip old new Short = (done : Done) → trip ≡ Fails done → (replayed empty new ≡ step done (replayed empty old)) ⊎ Short

-- What can be done at all.

-- a name is free, in a folder that is there
pub record IsVacant (image : Image) (path : List ℕ) : Type 0 where
  pub free : image.names path ≡ binding.Nothing
  pub home : image.names (folder_of path) ≡ binding.Folder

-- a file is there
abbrev pub IsFile : Image → List ℕ → Type 0
IsFile image path = (n : ℕ) × (image.names path ≡ binding.File n)

-- a file is there, and no sync of it has failed
abbrev pub IsSureFile : Loose → List ℕ → Type 0
IsSureFile l path = (n : ℕ) × (l.names path ≡ binding.File n) × (l.doubted n ≡ false)

-- what a call asks for can be done, and the call does not fail with nothing done
abbrev pub IsToBeDone : Trip → Type 0 → Type 0
IsToBeDone trip Can = Can × (trip ≢ Fails Nothing)

-- the count of shortages stays where a call does not fail, and where nothing is to be done
pub record StaysUnlessShort {T : Type 0} (ToDo : Type 0) (result : Result T Fault) (old new : ℕ) : Type 0 where
  pub answered : (IsErrOf result Failed → ⊥) → new ≡ old
  pub idle : (ToDo → ⊥) → new ≡ old
