-- Part files in the key folders of a table that nothing names.
use Rattle.std.specs.Prelude.{◌≡◌, ◌<◌, ◌^◌, ◌↔◌, ℕ, List, Contains}
use Rattle.schema.specs.Values.{ValueTree}
use Rattle.schema.specs.Keys.{KeyColumn}
use Rattle.disk.specs.State.{Image}
use Rattle.disk.specs.declared.binding.Binding.TheVariants.{File}
use Rattle.partition.specs.Folders.{CanPartition, part_path_of}

-- the path of a part file in the folder of a key of these columns
abbrev pub IsPartPath : List KeyColumn → List ℕ → Type 0
IsPartPath keys path = (key : List ValueTree) × (number : ℕ) × CanPartition keys key × (number < 2 ^ 64) × (path ≡ part_path_of keys key number)

-- a part file is there that is not named
pub record IsStray (image : Image) (keys : List KeyColumn) (Named : List ℕ → Type 0) (path : List ℕ) : Type 0 where
  pub node : ℕ
  pub file : image.names path ≡ File node
  pub part : IsPartPath keys path
  pub unnamed : Named path → ⊥

-- the paths are exactly those of the part files that are there and not named
abbrev pub AreStrays : Image → List KeyColumn → (List ℕ → Type 0) → List (List ℕ) → Type 0
AreStrays image keys Named paths = (path : List ℕ) → Contains paths path ↔ IsStray image keys Named path
