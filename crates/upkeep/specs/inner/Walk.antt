-- What a walk through the key folders finds.
use Rattle.std.specs.Prelude.{◌≡◌, ◌⊎◌, ◌<◌, ◌^◌, ℕ, List, take, map, Contains, String, string_bytes, Vec, Some}
use Rattle.std.specs.List.{slice_get}
use Rattle.std.specs.declared.alloc.Global.{Global}
use Rattle.schema.specs.Values.{ValueTree}
use Rattle.schema.specs.Keys.{KeyColumn}
use Rattle.disk.specs.State.{Image}
use Rattle.disk.specs.declared.binding.Entry.{Entry}
use Rattle.disk.specs.declared.binding.Binding.TheVariants.{File}
use Rattle.disk.specs.declared.binding.Kind.TheVariants as kind
use Rattle.partition.specs.Folders.{CanPartition, path, part_path_of}
use Rattle.folders.specs.Entries.{path_at, IsPartEntry, IsStrayFile}
use Rattle.upkeep.specs.Strays.{IsStray}

-- paths as lists of bytes
abbrev pub paths_of : Vec (String Global) Global → List (List ℕ)
paths_of v = map string_bytes v.items

-- the new paths have all old ones, and otherwise only paths that are as `Is` says
pub record Adds (Is : List ℕ → Type 0) (old new : List (List ℕ)) : Type 0 where
  pub keeps : (q : List ℕ) → Contains old q → Contains new q
  pub only : (q : List ℕ) → Contains new q → Contains old q ⊎ Is q

-- the part file of an entry of a key folder, where it is not named
pub record FindsFile (Named : List ℕ → Type 0) (folder : List ℕ) (entry : Entry) (old new : List (List ℕ)) : Type 0 where
  pub adds : Adds (IsStrayFile Named folder entry) old new
  pub found : IsPartEntry entry → (Named (path_at folder entry) → ⊥) → Contains new (path_at folder entry)

-- the part files of all entries of a key folder that are not named
pub record FindsFiles (Named : List ℕ → Type 0) (folder : List ℕ) (entries : List Entry) (old new : List (List ℕ)) : Type 0 where
  pub adds : Adds (λ q. (i : ℕ) × (entry : Entry) × (slice_get entries i ≡ Some entry) × IsStrayFile Named folder entry q) old new
  pub found : (i : ℕ) (entry : Entry) → slice_get entries i ≡ Some entry → IsPartEntry entry → (Named (path_at folder entry) → ⊥) → Contains new (path_at folder entry)

-- the part files below this folder, which has those of so many key columns, that are not named
abbrev pub IsFound : List KeyColumn → (List ℕ → Type 0) → ℕ → List ℕ → Image → List (List ℕ) → Type 0
IsFound keys Named depth folder image paths = (key : List ValueTree) (number node : ℕ) → CanPartition keys key → number < 2 ^ 64
    → path (take depth keys) (take depth key) ≡ folder → image.names (part_path_of keys key number) ≡ File node
    → (Named (part_path_of keys key number) → ⊥) → Contains paths (part_path_of keys key number)

-- a walk below this folder adds only part files that are not named, and after it has all of them that lie below the folder
pub record Finds (keys : List KeyColumn) (Named : List ℕ → Type 0) (depth : ℕ) (folder : List ℕ) (image : Image) (old new : List (List ℕ)) : Type 0 where
  pub adds : Adds (IsStray image keys Named) old new
  pub found : IsFound keys Named depth folder image new

-- a walk below an entry of a folder adds only part files that are not named, and after it has all of them that lie there
pub record FindsBelow (keys : List KeyColumn) (Named : List ℕ → Type 0) (depth : ℕ) (folder : List ℕ) (entry : Entry) (image : Image) (old new : List (List ℕ)) : Type 0 where
  pub adds : Adds (IsStray image keys Named) old new
  pub found : entry.kind ≡ kind.Folder → IsFound keys Named depth (path_at folder entry) image new
