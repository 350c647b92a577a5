-- What the entries of a table's folders are.
use Rattle.std.specs.Prelude.{◌≡◌, ◌<◌, ◌^◌, ℕ, List, String, string_bytes}
use Rattle.std.specs.declared.alloc.Global.{Global}
use Rattle.schema.specs.Values.{ValueTree}
use Rattle.schema.specs.Keys.{KeyColumn}
use Rattle.disk.specs.Paths.{path_in}
use Rattle.disk.specs.declared.binding.Entry.{Entry}
use Rattle.disk.specs.declared.binding.Kind.TheVariants as kind
use Rattle.partition.specs.Folders.{CanPartition, path, part_name_of}

-- some key of these columns has this folder
abbrev pub IsKeyFolder : List KeyColumn → List ℕ → Type 0
IsKeyFolder columns folder = (key : List ValueTree) × CanPartition columns key × (path columns key ≡ folder)

-- the path of an entry of a folder
abbrev pub path_at : List ℕ → Entry → List ℕ
path_at folder entry = path_in folder (string_bytes entry.name)

-- the entry is a folder of a key of these columns, and this is its path
abbrev pub IsBelow : List KeyColumn → List ℕ → Entry → String Global → Type 0
IsBelow columns folder entry below = (string_bytes below ≡ path_at folder entry) × IsKeyFolder columns (path_at folder entry)

-- the entry is no folder of a key of these columns
abbrev pub IsNoneBelow : List KeyColumn → List ℕ → Entry → Type 0
IsNoneBelow columns folder entry = entry.kind ≡ kind.Folder → IsKeyFolder columns (path_at folder entry) → ⊥

-- the entry is a part file by its name
abbrev pub IsPartEntry : Entry → Type 0
IsPartEntry entry = (number : ℕ) × (number < 2 ^ 64) × (string_bytes entry.name ≡ part_name_of number) × (entry.kind ≡ kind.File)

-- the entry of a key folder is a part file that is not named, and this is its path
abbrev pub IsStrayFile : (List ℕ → Type 0) → List ℕ → Entry → List ℕ → Type 0
IsStrayFile Named folder entry stray = (stray ≡ path_at folder entry) × IsPartEntry entry × (Named (path_at folder entry) → ⊥)

-- the entry of a key folder is another file, or is named
abbrev pub IsNoStrayFile : (List ℕ → Type 0) → List ℕ → Entry → Type 0
IsNoStrayFile Named folder entry = IsPartEntry entry → Named (path_at folder entry)
