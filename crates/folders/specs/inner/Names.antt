-- The groups whose part files are named.
use Rattle.std.specs.Prelude.{◌≡◌, ℕ, List, [], ◌∷◌, Option, Some, None, nat_eq, if◌then◌else◌, string_bytes}
use Rattle.std.specs.Option.{option_or}
use Rattle.std.specs.Rc.{rc_value}
use Rattle.schema.specs.Views.{key_view}
use Rattle.schema.specs.Keys.{KeyColumn}
use Rattle.partition.specs.Folders.{path}
use Rattle.manifest.specs.Groups.{Group}
use Rattle.folders.specs.declared.named_parts.InFolder.{InFolder}

-- the folder of the group's key, if the group has this number
abbrev pub folder_if : List KeyColumn → Group → ℕ → Option (List ℕ)
folder_if keys g number = if nat_eq g.number number then Some (path keys g.key) else None

-- the folder of the last of these groups that has this number
abbrev pub folder_for : List KeyColumn → List Group → ℕ → Option (List ℕ)
folder_for keys [] number = None
folder_for keys (g ∷ gs) number = option_or (folder_for keys gs number) (folder_if keys g number)

-- the folder of a group's key is with the group, if there is one
abbrev pub IsFolderOf : List KeyColumn → Option InFolder → Type 0
IsFolderOf keys None = Unit {0}
IsFolderOf keys (Some last) = string_bytes (rc_value last.folder) ≡ path keys (key_view (rc_value last.group).key)
