-- What is known of the files at paths, and what calls do to them.
use Rattle.std.specs.Prelude.{◌≡◌, ◌≢◌, ◌⊎◌, ◌≤◌, ⊤, ℕ, List, length, take, codes}
use Rattle.std.specs.Str.{IsUtf8}
use Rattle.std.specs.Io.KnownBytes.{Appends}
use Rattle.std.specs.Prelude.{Option}
use Rattle.bits.specs.declared.refusal.Refusal.{Refusal}
use Rattle.bits.specs.declared.refusal.Refusal.TheVariants.{Memory, Device, Exists}

-- what is at a path: nothing is known of it, nothing is there, a folder, or a file of these bytes
pub data Place : Type 0 where
  Unknown : Place
  Free : Place
  Folder : Place
  Holds : List ℕ → Place

-- what is at each path; of standard input, `-`, what it gives
abbrev pub Places : Type 0
Places = List ℕ → Place

-- these are the bytes of the file that is there, where that is known
abbrev pub HasBytes : Place → List ℕ → Type 0
HasBytes Unknown bytes = ⊤
HasBytes Free bytes = ⊥
HasBytes Folder bytes = ⊥
HasBytes (Holds all) bytes = bytes ≡ all

-- these are the bytes of the file that is there, where that is known; of one of more than 2^31 bytes, its first 2^31
abbrev pub HasFront : Place → List ℕ → Type 0
HasFront Unknown bytes = ⊤
HasFront Free bytes = ⊥
HasFront Folder bytes = ⊥
HasFront (Holds all) bytes = bytes ≡ take 2147483648 all

-- a file of 64 KiB or more is there, where that is known
abbrev pub IsLarge : Place → Type 0
IsLarge Unknown = ⊤
IsLarge Free = ⊥
IsLarge Folder = ⊥
IsLarge (Holds all) = 65536 ≤ length all

-- a folder is there, where that is known
abbrev pub IsFolder : Place → Type 0
IsFolder Unknown = ⊤
IsFolder Free = ⊥
IsFolder Folder = ⊤
IsFolder (Holds all) = ⊥

-- something is there, where that is known
abbrev pub IsTaken : Place → Type 0
IsTaken Unknown = ⊤
IsTaken Free = ⊥
IsTaken Folder = ⊤
IsTaken (Holds all) = ⊤

-- a file of these bytes is there now, where it was known that nothing was
abbrev pub BecomesFile : Place → Place → List ℕ → Type 0
BecomesFile Unknown new bytes = ⊤
BecomesFile Free new bytes = new ≡ Holds bytes
BecomesFile Folder new bytes = ⊥
BecomesFile (Holds all) new bytes = ⊥

-- a new file was made at a path, of these bytes, and what is at other paths is as before
pub record MakesFile (old new : Places) (path bytes : List ℕ) : Type 0 where
  pub made : BecomesFile (old path) (new path) bytes
  pub others : (other : List ℕ) → other ≢ path → new other ≡ old other

-- a new file was made at a path, of these bytes, and a writer got nothing; or the path is `-`, and the writer got the bytes
abbrev pub PutsAt : Places → Places → List ℕ → List ℕ → Option (List ℕ) → Option (List ℕ) → Type 0
PutsAt files after path bytes old new = (MakesFile files after path bytes × (new ≡ old)) ⊎ ((path ≡ codes "-") × Appends old new bytes)

-- the bytes of the file that is there are no text
pub record IsNoText (place : Place) : Type 0 where
  pub bytes : List ℕ
  pub has : HasBytes place bytes
  pub no_text : IsUtf8 bytes → ⊥

-- Memory or Device; or a file is there, and this is why its bytes are refused so
abbrev pub IsFileRefusal : Place → (List ℕ → Refusal → Type 0) → Refusal → Type 0
IsFileRefusal place Why e = ((e ≡ Memory) ⊎ (e ≡ Device)) ⊎ ((bytes : List ℕ) × HasFront place bytes × Why bytes e)

-- no file can be made at a path: Memory or Device; or Exists, and something is there
abbrev pub IsPlaceRefusal : Place → Refusal → Type 0
IsPlaceRefusal place e = ((e ≡ Memory) ⊎ (e ≡ Device)) ⊎ ((e ≡ Exists) × IsTaken place)

-- but for Memory and Device a writer has nothing new
abbrev pub IsUnwritten : Option (List ℕ) → Option (List ℕ) → Refusal → Type 0
IsUnwritten old new e = e ≢ Device → e ≢ Memory → new ≡ old
