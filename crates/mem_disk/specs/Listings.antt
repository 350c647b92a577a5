-- What is listed of a folder.
use Rattle.std.specs.Prelude.{◌≡◌, ◌≢◌, ◌⊎◌, ℕ, List, [], ◌∷◌, ◌++◌, string_bytes}
use Rattle.disk.specs.Paths.{path_in, IsName}
use Rattle.disk.specs.Calls.{IsListedAs}
use Rattle.disk.specs.declared.binding.Binding.{Binding}
use Rattle.disk.specs.declared.binding.Binding.TheVariants.{Nothing}
use Rattle.disk.specs.declared.binding.Entry.{Entry}
use Rattle.disk.specs.declared.binding.Kind.{Kind}
use Rattle.mem_disk.specs.declared.name.Name.{Name}

-- what a binding is listed as
abbrev pub IsKindOf : Binding → Kind → Type 0
IsKindOf binding kind = IsListedAs binding kind

-- a name of the folder is listed as this entry
pub record IsEntryOf (folder : List ℕ) (x : Name) (entry : Entry) : Type 0 where
  pub name : IsName (string_bytes entry.name)
  pub path : string_bytes x.path ≡ path_in folder (string_bytes entry.name)
  pub kind : IsListedAs x.now entry.kind

-- a name is not listed: it stands for nothing, or does not lie in the folder
abbrev pub IsUnlisted : List ℕ → Name → Type 0
IsUnlisted folder x = (x.now ≡ Nothing) ⊎ ((name : List ℕ) → IsName name → string_bytes x.path ≢ path_in folder name)

-- these entries are what the names are listed as, in their order; a name that is not listed has none
abbrev pub AreListed : List ℕ → List Name → List Entry → Type 0
AreListed folder [] entries = entries ≡ []
AreListed folder (x ∷ xs) entries = (IsUnlisted folder x × AreListed folder xs entries) ⊎ ((e : Entry) × (rest : List Entry) × (entries ≡ e ∷ rest) × IsEntryOf folder x e × AreListed folder xs rest)

-- what a name is listed as stands after the entries
abbrev pub AddsEntry : List ℕ → Name → List Entry → List Entry → Type 0
AddsEntry folder x old new = (IsUnlisted folder x × (new ≡ old)) ⊎ ((e : Entry) × IsEntryOf folder x e × (new ≡ old ++ e ∷ []))
