-- What is known of folders in memory where one of them changes.
use Rattle.std.proofs.Common.{◌≡◌, ◌≢◌, ◌↔◌, ◌⊎◌, ℕ, List, is_some, sym, subst}
use Rattle.program.specs.Paths.{Holds}
use Rattle.places.specs.Places.{StaysKnown, StaysBut}
use Rattle.memory_places.specs.Files.{place_in}
use Rattle.memory_places.specs.Folders.{known_in_memory, IsDiskOf, IsDiskMade, HasNoDisk, HasFolderAsRoot, StayBut, Stay}
use Rattle.memory_places.specs.declared.layout.Layout.{Layout}
use Rattle.memory_places.specs.declared.disks.FolderDisks.{FolderDisks}

-- what holds of equals
of_equals : {A : Type 0} (P : A → Type 0) {x y : A} → y ≡ x → P x ↔ P y
of_equals P same = (λ h. subst P (sym same) h, λ h. subst P same h)

-- where the folders stay but for one, what is known of the others does
pub stays_but : (layout : Layout) (old new : FolderDisks) (at : List ℕ) → StayBut at old new → StaysBut at (known_in_memory layout old) (known_in_memory layout new)
stays_but layout old new at same = record {
  files = λ path bytes. (λ h. h, λ h. h);
  folders = λ path disk other. of_equals (λ f. IsDiskOf f disk) (same path other);
  made = λ path disk other. of_equals (λ f. IsDiskMade f disk) (same path other);
  is_folder = λ path is other. of_equals (λ f. is_some f ≡ is) (same path other);
  is_shut = λ path other. of_equals (λ f. ((bytes : List ℕ) → place_in layout path ≢ Holds bytes) ⊎ (HasNoDisk f ⊎ HasFolderAsRoot f)) (same path other);
}

-- where all folders stay, all that is known does
pub stays : (layout : Layout) (old new : FolderDisks) → Stay old new → StaysKnown (known_in_memory layout old) (known_in_memory layout new)
stays layout old new same = record {
  files = λ path bytes. (λ h. h, λ h. h);
  folders = λ path disk. of_equals (λ f. IsDiskOf f disk) (same path);
  made = λ path disk. of_equals (λ f. IsDiskMade f disk) (same path);
  is_folder = λ path is. of_equals (λ f. is_some f ≡ is) (same path);
  is_shut = λ path. of_equals (λ f. ((bytes : List ℕ) → place_in layout path ≢ Holds bytes) ⊎ (HasNoDisk f ⊎ HasFolderAsRoot f)) (same path);
}
