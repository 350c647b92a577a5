-- What may be returned of a group whose part file is absent.
use Rattle.std.specs.Prelude.{◌≡◌, ◌≢◌, ◌⊎◌, ℕ, List, [], ◌∷◌, Option, Some, None}
use Rattle.std.specs.List.{AllByRecursion}
use Rattle.schema.specs.Values.{ValueTrees}
use Rattle.schema.specs.Shape.{Fields}
use Rattle.schema.specs.Keys.{KeyColumn, without_keys}
use Rattle.disk.specs.State.{State}
use Rattle.vault.specs.Views.{IsNoFile}
use Rattle.partition.specs.Folders.{part_path_of}
use Rattle.filter.specs.Test.{Test}
use Rattle.filter.specs.Satisfies.{Satisfies}
use Rattle.manifest.specs.Groups.{Group}
use Rattle.manifest.specs.Parts.{PartMeans}
use Rattle.manifest.specs.Records.{IsGroup}
use Rattle.scan.specs.Cost.{chunks_read}

-- a table with these fields and keys can have the group, and the disk reads no file at the path of the group's part file
pub record Lacks (state : State) (keys : List KeyColumn) (fs : Fields) (g : Group) : Type 0 where
  pub is : IsGroup keys (without_keys keys fs) g
  pub absent : IsNoFile state (part_path_of keys g.key g.number)

-- the filter is not empty, and no file that the root can mean by the group has a row that satisfies
pub record CanHoldNone (tests : List (List Test)) (keys : List KeyColumn) (fs : Fields) (g : Group) : Type 0 where
  pub filtered : tests ≢ []
  pub none : (bytes : List ℕ) (rows : List ValueTrees) → PartMeans keys (without_keys keys fs) g bytes rows → AllByRecursion (λ row. Satisfies tests row → ⊥) rows

-- What may be returned of a group whose part file is absent. It is nothing only if no file that the root can mean has a row that
-- satisfies, and something only if no chunk is read for it.
abbrev pub MayLack : {A : Type 0} → List (List Test) → List KeyColumn → Fields → Group → List ℕ → Option A → Type 0
MayLack tests keys fs g places None = CanHoldNone tests keys fs g
MayLack tests keys fs g places (Some read) = chunks_read tests keys fs g places ≡ 0

-- The same of a list of rows: it is empty only if no file that the root can mean has a row that satisfies, and has a row only if no
-- chunk is read for it.
abbrev pub MayLackRows : List (List Test) → List KeyColumn → Fields → Group → List ℕ → List ValueTrees → Type 0
MayLackRows tests keys fs g places [] = CanHoldNone tests keys fs g
MayLackRows tests keys fs g places (row ∷ rows) = chunks_read tests keys fs g places ≡ 0

-- No part file is needed for what is asked of the group: no file that the root can mean has a row that satisfies, or no chunk is read.
abbrev pub NeedsNoFile : List (List Test) → List KeyColumn → Fields → Group → List ℕ → Type 0
NeedsNoFile tests keys fs g places = CanHoldNone tests keys fs g ⊎ (chunks_read tests keys fs g places ≡ 0)
