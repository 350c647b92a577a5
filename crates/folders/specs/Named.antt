-- The part files that a root names, found by their numbers.
use Rattle.std.specs.Prelude.{◌≡◌, ◌↔◌, ◌<◌, ◌^◌, ℕ, List, Contains, Option, Some, option_map, nat_eq, string_bytes}
use Rattle.std.specs.HashMap.{get}
use Rattle.std.specs.Rc.{rc_value}
use Rattle.disk.specs.Paths.{path_in}
use Rattle.partition.specs.Folders.{part_name_of}
use Rattle.manifest.specs.Groups.{Group, Root}
use Rattle.manifest.specs.Table.{path_of_group}
use Rattle.folders.specs.declared.named_parts.NamedParts.{NamedParts}

-- the root names this path
abbrev pub IsNamed : Root → List ℕ → Type 0
IsNamed root path = (g : Group) × Contains root.groups g × (path_of_group root g ≡ path)

-- the folder of the part file with this number, where one is named
abbrev pub folder_in : NamedParts → ℕ → Option (List ℕ)
folder_in named number = option_map (λ f. string_bytes (rc_value f)) (get nat_eq named.folders number)

-- the path is that of a named part file: it has a number, and its folder is the one found under this number
abbrev pub IsIn : NamedParts → List ℕ → Type 0
IsIn named q = (number : ℕ) × (folder : List ℕ) × (number < 2 ^ 64) × (folder_in named number ≡ Some folder) × (path_in folder (part_name_of number) ≡ q)

-- exactly the paths that the root names are those of named part files
abbrev pub AreNamed : Root → NamedParts → Type 0
AreNamed root named = (q : List ℕ) → IsIn named q ↔ IsNamed root q
