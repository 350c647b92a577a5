-- What is known of places, over several steps.
use Rattle.std.proofs.Common.{◌≡◌, ◌↔◌, ℕ, List, [], ◌∷◌, Result, Ok, Err, IsErrAnd, ap}
use Rattle.std.specs.Prelude.{Contains}
use Rattle.lists.proofs.Booleans.{iff_through as both}
use Rattle.bits.specs.declared.refusal.Refusal.{Refusal}
use Rattle.bits.specs.declared.refusal.Refusal.TheVariants.{Device, Memory}
use Rattle.bits.specs.Refusals.{HasCause}
use Rattle.places.specs.Places.{Known, StaysKnown, StaysBut, IsKeptFrom, AreKeptAmong, AreFilesAt, HasEnds, InFolder, given_back, not_had}

same : {A : Type 0} → A ↔ A
same = (λ a. a, λ a. a)

-- a cause that leads to another one
pub by_cause : (P Q : Refusal → Type 0) → ((f : Refusal) → P f → Q f) → (e : Refusal) → HasCause P e → HasCause Q e
by_cause P Q so Memory has = tt
by_cause P Q so e has = so e has

pub stays_so : {D : Type 0} (known : Known D) → StaysKnown known known
stays_so known = record { files = λ path bytes. same; folders = λ path disk. same; made = λ path disk. same; is_folder = λ path is. same; is_shut = λ path. same }

module _ {D : Type 0} {old mid : Known D} (stays : StaysKnown old mid) where
  pub stays_then : {new : Known D} → StaysKnown mid new → StaysKnown old new
  stays_then more = record {
    files = λ path bytes. both (stays.files path bytes) (more.files path bytes);
    folders = λ path disk. both (stays.folders path disk) (more.folders path disk);
    made = λ path disk. both (stays.made path disk) (more.made path disk);
    is_folder = λ path is. both (stays.is_folder path is) (more.is_folder path is);
    is_shut = λ path. both (stays.is_shut path) (more.is_shut path);
  }

  -- then it stays but for any folder
  pub stays_but : (at : List ℕ) → StaysBut at old mid
  stays_but at = record {
    files = stays.files;
    folders = λ path disk other. stays.folders path disk;
    made = λ path disk other. stays.made path disk;
    is_folder = λ path is other. stays.is_folder path is;
    is_shut = λ path other. stays.is_shut path;
  }

  -- what was not had after it was not had before it
  pub kept_before : (path : List ℕ) (e : Refusal) → IsKeptFrom mid path e → IsKeptFrom old path e
  kept_before path e = by_cause (λ f. (f ≡ Device) × mid.is_shut path) (λ f. (f ≡ Device) × old.is_shut path) (λ f h. (h.0, (stays.is_shut path).1 h.1)) e

  pub among_before : (paths : List (List ℕ)) (e : Refusal) → AreKeptAmong mid paths e → AreKeptAmong old paths e
  among_before paths e =
      by_cause (λ f. (f ≡ Device) × (path : List ℕ) × Contains paths path × mid.is_shut path) (λ f. (f ≡ Device) × (path : List ℕ) × Contains paths path × old.is_shut path)
      (λ f h. (h.0, h.1, h.2, (stays.is_shut h.1).1 h.3)) e

  pub files_before : (paths files : List (List ℕ)) → AreFilesAt mid paths files → AreFilesAt old paths files
  files_before [] [] are = are
  files_before (path ∷ paths) (file ∷ files) are = ((stays.files path file).1 are.0, files_before paths files are.1)
  files_before [] (file ∷ files) are = are
  files_before (path ∷ paths) [] are = are

  pub ends_before : (path bytes : List ℕ) → HasEnds mid path bytes → HasEnds old path bytes
  ends_before path bytes has = (has.0, (stays.files path has.0).1 has.1, has.2)

pub but_then : {D : Type 0} {old mid new : Known D} (at : List ℕ) → StaysBut at old mid → StaysBut at mid new → StaysBut at old new
but_then at stays more = record {
  files = λ path bytes. both (stays.files path bytes) (more.files path bytes);
  folders = λ path disk other. both (stays.folders path disk other) (more.folders path disk other);
  made = λ path disk other. both (stays.made path disk other) (more.made path disk other);
  is_folder = λ path is other. both (stays.is_folder path is other) (more.is_folder path is other);
  is_shut = λ path other. both (stays.is_shut path other) (more.is_shut path other);
}

module _ {D : Type 0} {old mid new : Known D} (stays : StaysKnown old mid) where
  -- what comes of a folder after it comes of the folder before it
  pub carried : {W T : Type 0} (disk_in : W → D) (path : List ℕ) (Comes : W → W → Result T Refusal → Type 0) (Unchanged : Type 0) (result : Result T Refusal)
      → InFolder disk_in mid new path Comes Unchanged result → InFolder disk_in old new path Comes Unchanged result
  carried disk_in path Comes Unchanged result (given_back begun ended was is others comes) =
      given_back begun ended ((stays.folders path (disk_in begun)).1 was) is (but_then path (stays_but stays path) others) comes
  carried disk_in path Comes Unchanged result (not_had e kept still unchanged is) = not_had e (kept_before stays path e kept) (stays_then stays still) unchanged is

-- what is not had, by what a refusal is passed on as
pub not_had_of : {D W T : Type 0} {disk_in : W → D} {old new : Known D} {path : List ℕ} {Comes : W → W → Result T Refusal → Type 0} {Unchanged : Type 0}
    (result : Result T Refusal) (e : Refusal) → IsErrAnd result (λ f. f ≡ e) → IsKeptFrom old path e → StaysKnown old new → Unchanged
    → InFolder disk_in old new path Comes Unchanged result
not_had_of (Ok x) e is kept stays unchanged = absurd is
not_had_of (Err f) e is kept stays unchanged = not_had e kept stays unchanged (ap Err is)
