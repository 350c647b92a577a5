-- What is known of the files and folders of a maker of calls, and what a call leaves of it.
use Rattle.std.specs.Prelude.{◌≡◌, ◌≢◌, ◌⊎◌, ◌↔◌, ℕ, Bool, List, Contains, Result, Err}
use Rattle.std.specs.List.{AllZip}
use Rattle.bits.specs.declared.refusal.Refusal.{Refusal}
use Rattle.bits.specs.declared.refusal.Refusal.TheVariants.{Device, Limit}
use Rattle.bits.specs.Refusals.{HasCause}
use Rattle.places.specs.FileEnds.{HaveOneFooter}

-- What is known of files and folders, by their paths. Where nothing is known, all of it holds.
pub record Known (D : Type 0) : Type 1 where
  -- the file at a path has these bytes
  pub file : List ℕ → List ℕ → Type 0
  -- the folder at a path has this disk
  pub folder : List ℕ → D → Type 0
  -- so it has, or nothing is there, and a folder that is made there has this disk
  pub made : List ℕ → D → Type 0
  -- whether there is a folder at a path
  pub is_folder : List ℕ → Bool → Type 0
  -- what is at a path cannot be used
  pub is_shut : List ℕ → Type 0

-- nothing is known of anything
abbrev pub knows_nothing : {D : Type 0} → Known D
knows_nothing = record {
  file = λ path bytes. Unit {0};
  folder = λ path disk. Unit {0};
  made = λ path disk. Unit {0};
  is_folder = λ path is. Unit {0};
  is_shut = λ path. Unit {0};
}

-- all is as it was
pub record StaysKnown {D : Type 0} (old new : Known D) : Type 0 where
  pub files : (path bytes : List ℕ) → old.file path bytes ↔ new.file path bytes
  pub folders : (path : List ℕ) (disk : D) → old.folder path disk ↔ new.folder path disk
  pub made : (path : List ℕ) (disk : D) → old.made path disk ↔ new.made path disk
  pub is_folder : (path : List ℕ) (is : Bool) → old.is_folder path is ↔ new.is_folder path is
  pub is_shut : (path : List ℕ) → old.is_shut path ↔ new.is_shut path

-- all is as it was, but for the folder at this path
pub record StaysBut {D : Type 0} (at : List ℕ) (old new : Known D) : Type 0 where
  pub files : (path bytes : List ℕ) → old.file path bytes ↔ new.file path bytes
  pub folders : (path : List ℕ) (disk : D) → path ≢ at → old.folder path disk ↔ new.folder path disk
  pub made : (path : List ℕ) (disk : D) → path ≢ at → old.made path disk ↔ new.made path disk
  pub is_folder : (path : List ℕ) (is : Bool) → path ≢ at → old.is_folder path is ↔ new.is_folder path is
  pub is_shut : (path : List ℕ) → path ≢ at → old.is_shut path ↔ new.is_shut path

-- why what is at a path is not had: memory ran out, or it cannot be used
abbrev pub IsKeptFrom : {D : Type 0} → Known D → List ℕ → Refusal → Type 0
IsKeptFrom known path e = HasCause (λ f. (f ≡ Device) × known.is_shut path) e

-- the bytes are those of the file at a path, or of one that has its footer
abbrev pub HasEnds : {D : Type 0} → Known D → List ℕ → List ℕ → Type 0
HasEnds known path bytes = (file : List ℕ) × known.file path file × ((bytes ≡ file) ⊎ HaveOneFooter file bytes)

-- why the ends of the file at a path are not had: as its bytes are not, or it is too long
abbrev pub AreKeptFrom : {D : Type 0} → Known D → List ℕ → Refusal → Type 0
AreKeptFrom known path e = HasCause (λ f. ((f ≡ Device) × known.is_shut path) ⊎ (f ≡ Limit)) e

-- the files at these paths have these bytes, one of each
abbrev pub AreFilesAt : {D : Type 0} → Known D → List (List ℕ) → List (List ℕ) → Type 0
AreFilesAt known = AllZip (λ path bytes. known.file path bytes)

-- why some file of these paths is not had
abbrev pub AreKeptAmong : {D : Type 0} → Known D → List (List ℕ) → Refusal → Type 0
AreKeptAmong known paths e = HasCause (λ f. (f ≡ Device) × (path : List ℕ) × Contains paths path × known.is_shut path) e

-- What comes of the folder at a path: of its disk as it was, and as it is given back. Or the disk is not had, and all is as it was.
pub data InFolder {D W T : Type 0} (disk_in : W → D) (old new : Known D) (path : List ℕ)
    (Comes : W → W → Result T Refusal → Type 0) (Unchanged : Type 0) (result : Result T Refusal) : Type 0 where
  given_back : (begun ended : W) → old.folder path (disk_in begun) → new.folder path (disk_in ended) → StaysBut path old new → Comes begun ended result
      → InFolder disk_in old new path Comes Unchanged result
  not_had : (e : Refusal) → IsKeptFrom old path e → StaysKnown old new → Unchanged → result ≡ Err e → InFolder disk_in old new path Comes Unchanged result
