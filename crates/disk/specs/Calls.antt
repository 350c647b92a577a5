-- What the calls do.
use Rattle.std.specs.Prelude.{◌≡◌, ◌≢◌, ◌<◌, ◌≤◌, ◌⊎◌, ℕ, ◌+◌, ◌*◌, ◌/◌, ◌^◌, max, List, ◌++◌, length, take, drop, Some, None, slice_get, Result, IfOk, OnOk, IfErr, IsErrOf, string_bytes}
use Rattle.disk.specs.Paths.{folder_of, path_in, IsName}
use Rattle.disk.specs.State.{Image, State, IsFresh, IsOneMore, content, may_leave}
use Rattle.disk.specs.declared.binding.Binding.{Binding}
use Rattle.disk.specs.declared.binding.Binding.TheVariants.{Nothing, Folder, File}
use Rattle.disk.specs.declared.binding.Entry.{Entry}
use Rattle.disk.specs.declared.binding.Kind.{Kind}
use Rattle.disk.specs.declared.binding.Kind.TheVariants as kind
use Rattle.disk.specs.declared.fault.Fault.{Fault}
use Rattle.disk.specs.declared.fault.Fault.TheVariants.{Absent, Exists, Failed}

-- The steps: what a call makes of a disk at rest, done, not done or in part.

-- nothing changes
abbrev pub Stays : Image → Image → Type 0
Stays d c = c ≡ d

-- this name stands for that, or for what it did; all else is as it was
pub record Binds (path : List ℕ) (to : Binding) (d c : Image) : Type 0 where
  pub names : (q : List ℕ) → (c.names q ≡ d.names q) ⊎ ((q ≡ path) × (c.names q ≡ to))
  pub nodes : (n : ℕ) → c.bytes n ≡ d.bytes n

-- `count` bytes are written after the first `at` of a node: each sector of 512 bytes that is touched may hold any
-- bytes, and the length is any between
pub record Tears (node at count : ℕ) (d c : Image) : Type 0 where
  pub names : (q : List ℕ) → c.names q ≡ d.names q
  pub nodes : (n : ℕ) → n ≢ node → c.bytes n ≡ d.bytes n
  pub sectors : take (512 * (at / 512)) (c.bytes node) ≡ take (512 * (at / 512)) (d.bytes node)
  pub no_shorter : length (d.bytes node) ≤ length (c.bytes node)
  pub no_longer : length (c.bytes node) ≤ max (length (d.bytes node)) (at + count)
  pub untouched : count ≡ 0 → c.bytes node ≡ d.bytes node

-- each of the two names, by itself, stands for what it did, or for what the rename makes of it
pub record Moves (source target : List ℕ) (to : Binding) (d c : Image) : Type 0 where
  pub names : (q : List ℕ) → (c.names q ≡ d.names q) ⊎ (((q ≡ target) × (c.names q ≡ to)) ⊎ ((q ≡ source) × (c.names q ≡ Nothing)))
  pub nodes : (n : ℕ) → c.bytes n ≡ d.bytes n

-- Time goes on by a call whose effect is a step.
pub record Passes (Step : Image → Image → Type 0) (old new : State) : Type 0 where
  pub later : old.moment ≤ new.moment
  -- what a stop could have left before stays as it was
  pub history : (m : ℕ) (c : Image) → m ≤ old.moment → new.images m c → old.images m c
  pub keeps : (m : ℕ) (c : Image) → m ≤ old.moment → old.images m c → new.images m c
  -- within the call a stop leaves what it may leave before it or after it
  pub within : (m : ℕ) (c : Image) → old.moment < m → m ≤ new.moment → new.images m c → may_leave old c ⊎ may_leave new c
  -- what a stop may leave after it is a step from what one could have left before it
  pub follows : (c : Image) → may_leave new c → (d : Image) × may_leave old d × Step d c

-- no node comes into doubt
abbrev pub NoDoubt : State → State → Type 0
NoDoubt old new = (n : ℕ) → new.doubted n → old.doubted n

-- nothing changes that is read, and a stop may leave nothing that it could not leave before
pub record IsStill (old new : State) : Type 0 where
  pub passes : Passes Stays old new
  pub seen : new.seen ≡ old.seen
  pub sure : NoDoubt old new

-- a fault other than a failure of the disk
abbrev pub IsRefusal : Fault → Type 0
IsRefusal Failed = ⊥
IsRefusal _ = Unit {0}

-- A call that fails may have taken its step, not, or in part, and what is read then is one of the outcomes. Any
-- other fault changes nothing.
pub record Takes {T : Type 0} (Step : Image → Image → Type 0) (old new : State) (result : Result T Fault) : Type 0 where
  pub passes : Passes Step old new
  pub seen : Step old.seen new.seen
  pub refused : IfErr result (λ e. IsRefusal e → IsStill old new)

-- one failure is counted exactly where the result is `Failed`
pub record CountsFailure {T : Type 0} (result : Result T Fault) (old new : ℕ) : Type 0 where
  pub later : old ≤ new
  pub failed : IsErrOf result Failed → IsOneMore old new
  pub others : (IsErrOf result Failed → ⊥) → new ≡ old

-- what `create` does: the path names a new, empty file, where its folder is there and the name is free
pub record Created {T : Type 0} (path : List ℕ) (old new : State) (result : Result T Fault) : Type 0 where
  pub node : ℕ
  pub fresh : IsFresh old node
  pub takes : Takes (Binds path (File node)) old new result
  pub sure : NoDoubt old new
  pub done : OnOk result (new.seen.names path ≡ File node)
  -- where there is a name, and where there is no folder for it, nothing changes
  pub unmoved : old.seen.names path ≢ Nothing → IsStill old new
  pub homeless : old.seen.names (folder_of path) ≢ Folder → IsStill old new
  pub exists : IsErrOf result Exists → old.seen.names path ≢ Nothing
  pub absent : IsErrOf result Absent → old.seen.names (folder_of path) ≢ Folder

-- what `make_folder` does: the path names a folder, where its own folder is there; a name that is there stays
pub record FolderMade {T : Type 0} (path : List ℕ) (old new : State) (result : Result T Fault) : Type 0 where
  pub takes : Takes (Binds path Folder) old new result
  pub sure : NoDoubt old new
  pub done : OnOk result (new.seen.names path ≡ Folder)
  -- where there is a name, and where there is no folder for it, nothing changes
  pub unmoved : old.seen.names path ≢ Nothing → IsStill old new
  pub homeless : old.seen.names (folder_of path) ≢ Folder → IsStill old new
  pub exists : IsErrOf result Exists → (n : ℕ) × (old.seen.names path ≡ File n)
  pub absent : IsErrOf result Absent → old.seen.names (folder_of path) ≢ Folder

-- the disk reads no file at this path
abbrev pub IsNoFile : State → List ℕ → Type 0
IsNoFile state path = (n : ℕ) → state.seen.names path ≢ File n

-- what `append` does: the file reads with these bytes after those it had; a stop may tear its sectors from the old end on
pub record Appended {T : Type 0} (path bytes : List ℕ) (old new : State) (result : Result T Fault) : Type 0 where
  pub takes : (n : ℕ) → old.seen.names path ≡ File n → Takes (Tears n (length (old.seen.bytes n)) (length bytes)) old new result
  pub sure : NoDoubt old new
  pub done : OnOk result ((n : ℕ) × (old.seen.names path ≡ File n) × (new.seen.bytes n ≡ old.seen.bytes n ++ bytes))
  pub unmoved : IsNoFile old path → IsStill old new
  pub absent : IsErrOf result Absent → IsNoFile old path

-- After a sync a stop leaves the file's bytes as they read; but a sync after one that failed promises nothing of them.
pub record Synced {T : Type 0} (path : List ℕ) (old new : State) (result : Result T Fault) : Type 0 where
  pub takes : Takes Stays old new result
  -- doubt comes only here, where the sync fails
  pub doubt : (n : ℕ) → new.doubted n → old.doubted n ⊎ (old.seen.names path ≡ File n)
  pub sure : OnOk result (NoDoubt old new)
  pub done : OnOk result ((n : ℕ) × (old.seen.names path ≡ File n) × ((old.doubted n → ⊥) → (c : Image) → may_leave new c → c.bytes n ≡ old.seen.bytes n))
  pub unmoved : IsNoFile old path → IsStill old new
  pub absent : IsErrOf result Absent → IsNoFile old path

-- After a folder's sync, a stop that leaves the folder leaves its names as they read; other folders are not synced
-- by it, nor is its own name.
pub record FolderSynced {T : Type 0} (folder : List ℕ) (old new : State) (result : Result T Fault) : Type 0 where
  pub takes : Takes Stays old new result
  pub sure : NoDoubt old new
  pub done : OnOk result ((old.seen.names folder ≡ Folder) × ((c : Image) → may_leave new c → c.names folder ≡ Folder → (q : List ℕ) → folder_of q ≡ folder → c.names q ≡ old.seen.names q))
  pub absent : IsErrOf result Absent → old.seen.names folder ≢ Folder

-- a file can get this other name: within its folder, and onto no folder
pub record IsMovable (image : Image) (source target : List ℕ) : Type 0 where
  pub node : ℕ
  pub file : image.names source ≡ File node
  pub onto : image.names target ≢ Folder
  pub beside : folder_of target ≡ folder_of source
  pub apart : target ≢ source

-- what `rename` does: where the file can be moved (`IsMovable`), the target names it and the source names nothing
pub record Renamed {T : Type 0} (source target : List ℕ) (old new : State) (result : Result T Fault) : Type 0 where
  pub takes : Takes (Moves source target (old.seen.names source)) old new result
  pub sure : NoDoubt old new
  pub done : OnOk result (IsMovable old.seen source target × (new.seen.names target ≡ old.seen.names source) × (new.seen.names source ≡ Nothing))
  pub unmoved : (IsMovable old.seen source target → ⊥) → IsStill old new
  pub absent : IsErrOf result Absent → old.seen.names source ≡ Nothing
  -- a name is there, and cannot get the other one
  pub exists : IsErrOf result Exists → (old.seen.names source ≢ Nothing) × (IsMovable old.seen source target → ⊥)

-- what `remove` does: a file's name stands for nothing; the name of a folder stays
pub record Removed {T : Type 0} (path : List ℕ) (old new : State) (result : Result T Fault) : Type 0 where
  pub takes : Takes (Binds path Nothing) old new result
  pub sure : NoDoubt old new
  pub done : OnOk result ((n : ℕ) × (old.seen.names path ≡ File n) × (new.seen.names path ≡ Nothing))
  -- a folder stays
  pub unmoved : IsNoFile old path → IsStill old new
  pub absent : IsErrOf result Absent → old.seen.names path ≡ Nothing
  pub exists : IsErrOf result Exists → old.seen.names path ≡ Folder

-- a range of the file's bytes, as much of it as is there
pub record RangeRead {R : Type 0} (bytes_of : R → List ℕ) (path : List ℕ) (from len : ℕ) (old new : State) (result : Result R Fault) : Type 0 where
  pub still : IsStill old new
  pub done : IfOk result (λ r. (whole : List ℕ) × (content old.seen path ≡ Some whole) × (length whole < 2 ^ 63) × (bytes_of r ≡ take len (drop from whole)))
  pub absent : IsErrOf result Absent → content old.seen path ≡ None

-- the length of the file's bytes
pub record Measured (path : List ℕ) (old new : State) (result : Result ℕ Fault) : Type 0 where
  pub still : IsStill old new
  pub done : IfOk result (λ n. (whole : List ℕ) × (content old.seen path ≡ Some whole) × (n ≡ length whole))
  pub absent : IsErrOf result Absent → content old.seen path ≡ None

-- what a binding is listed as
abbrev pub IsListedAs : Binding → Kind → Type 0
IsListedAs Nothing k = ⊥
IsListedAs Folder k = k ≡ kind.Folder
IsListedAs (File n) k = k ≡ kind.File

-- exactly the names in a folder that stand for something, each once, with what they stand for
pub record AreNamesIn (image : Image) (folder : List ℕ) (entries : List Entry) : Type 0 where
  pub each : (i : ℕ) (entry : Entry) → slice_get entries i ≡ Some entry → IsName (string_bytes entry.name) × IsListedAs (image.names (path_in folder (string_bytes entry.name))) entry.kind
  pub every : (name : List ℕ) → IsName name → image.names (path_in folder name) ≢ Nothing → (i : ℕ) × (entry : Entry) × (slice_get entries i ≡ Some entry) × (string_bytes entry.name ≡ name)
  pub once : (i j : ℕ) (one other : Entry) → slice_get entries i ≡ Some one → slice_get entries j ≡ Some other → string_bytes one.name ≡ string_bytes other.name → i ≡ j

-- what `list` returns: exactly the names in the folder, with their kinds; it changes nothing
pub record Listed {R : Type 0} (entries_of : R → List Entry) (folder : List ℕ) (old new : State) (result : Result R Fault) : Type 0 where
  pub still : IsStill old new
  pub done : IfOk result (λ r. (old.seen.names folder ≡ Folder) × AreNamesIn old.seen folder (entries_of r))
  pub absent : IsErrOf result Absent → old.seen.names folder ≢ Folder
