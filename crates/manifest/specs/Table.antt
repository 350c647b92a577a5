-- Which table the files of a folder are.
use Rattle.std.specs.Prelude.{◌≡◌, ℕ, List, [], ◌∷◌, codes, Option, Some, Contains}
use Rattle.partition.specs.Folders.{part_path_of}
use Rattle.manifest.specs.Groups.{Group, Root}
use Rattle.manifest.specs.Root.{RootMeans, stored_of}
use Rattle.manifest.specs.Parts.{PartMeans}
pub use Rattle.table.specs.Table.{Group as Rows, Table}

-- the bytes of the file at each path, where one is there
abbrev pub Files : Type 0
Files = List ℕ → Option (List ℕ)

-- the name of the root in the dataset's folder
abbrev pub root_name : List ℕ
root_name = codes "_metadata"

-- the path of a described group's part file in the dataset's folder
abbrev pub path_of_group : Root → Group → List ℕ
path_of_group root g = part_path_of root.keys g.key g.number

-- the file that a described group names holds these rows
pub record IsPartAt (files : Files) (root : Root) (g : Group) (t : Rows) : Type 0 where
  pub number : t.number ≡ g.number
  pub key : t.key ≡ g.key
  pub bytes : List ℕ
  pub there : files (path_of_group root g) ≡ Some bytes
  pub means : PartMeans root.keys (stored_of root) g bytes t.rows

-- the file of each described group holds the rows of the table's group at the same place, and there are as many of both
abbrev pub ArePartsAt : Files → Root → List Group → List Rows → Type 0
ArePartsAt files root [] [] = Unit {0}
ArePartsAt files root (g ∷ gs) (t ∷ ts) = IsPartAt files root g t × ArePartsAt files root gs ts
ArePartsAt files root _ _ = ⊥

-- there is a root among the files, and it gives this description
pub record IsRootAt (files : Files) (root : Root) : Type 0 where
  pub bytes : List ℕ
  pub there : files root_name ≡ Some bytes
  pub means : RootMeans bytes root

-- the files are the table that this root describes
pub record IsTableOf (files : Files) (root : Root) (table : Table) : Type 0 where
  pub described : IsRootAt files root
  pub schema : table.schema ≡ root.schema
  pub keys : table.keys ≡ root.keys
  pub next : table.next ≡ root.next
  pub parts : ArePartsAt files root root.groups table.groups

-- the files are this table
abbrev pub TableOf : Files → Table → Type 0
TableOf files table = (root : Root) × IsTableOf files root table

-- there is a root among the files, and one of its groups has its part file at this path
abbrev pub NamesPath : Files → List ℕ → Type 0
NamesPath files path = (root : Root) × IsRootAt files root × ((g : Group) × Contains root.groups g × (path_of_group root g ≡ path))
