-- A table in which nothing is found.
use Rattle.std.specs.Prelude.{◌≡◌, ℕ, List, Contains, Some}
use Rattle.schema.specs.Values.{ValueTrees}
use Rattle.schema.specs.Shape.{Fields}
use Rattle.schema.specs.Fronts.{first_fields}
use Rattle.disk.specs.State.{Image, content}
use Rattle.manifest.specs.Groups.{Group, Root}
use Rattle.manifest.specs.Root.{stored_of}
use Rattle.manifest.specs.Parts.{HoldsGroup}
use Rattle.manifest.specs.Table.{path_of_group}
use Rattle.folders.specs.Named.{IsNamed}
use Rattle.upkeep.specs.Strays.{IsStray, AreStrays}

-- in a table whose files have these fields, the bytes are a file of the fields that the group's file has; it holds the group
abbrev pub HoldsRows : Fields → Group → List ℕ → Type 0
HoldsRows stored g bytes = (rows : List ValueTrees) × HoldsGroup (first_fields g.width stored) g bytes rows

-- the file that a group names is there, and holds the group
abbrev pub IsHeldIn : Image → Root → Group → Type 0
IsHeldIn image root g = (bytes : List ℕ) × (content image (path_of_group root g) ≡ Some bytes) × HoldsRows (stored_of root) g bytes

-- the paths are those of the part files in the table's key folders that the root does not name
abbrev pub AreLeftovers : Image → Root → List (List ℕ) → Type 0
AreLeftovers image root paths = AreStrays image root.keys (IsNamed root) paths

-- each file that the root names is there and holds its group
abbrev pub AreHeld : Image → Root → Type 0
AreHeld image root = (g : Group) → Contains root.groups g → IsHeldIn image root g

-- so it is, and no part file is there that the root does not name
pub record IsIntact (image : Image) (root : Root) : Type 0 where
  pub each : AreHeld image root
  pub alone : (path : List ℕ) → IsStray image root.keys (IsNamed root) path → ⊥
