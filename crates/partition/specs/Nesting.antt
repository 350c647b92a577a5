-- How the folders of a key nest, one key column after another.
use Rattle.std.specs.Prelude.{◌≡◌, ◌≢◌, ℕ, suc, ◌<◌, ◌^◌, List, [], length, take, get_or, IsTrue}
use Rattle.std.specs.List.{AllByRecursion}
use Rattle.schema.specs.Values.{ValueTree}
use Rattle.schema.specs.Keys.{KeyColumn}
use Rattle.partition.specs.Folders.{folders, path, is_key, CanPartition, part_name_of, name_in}

-- a name within a folder: it is not empty, and has no slash
pub record IsPlainName (name : List ℕ) : Type 0 where
  pub some : name ≢ []
  pub plain : AllByRecursion (λ b. b ≢ 47) name

-- the path of the first `n` folders of a key
abbrev pub path_to : List KeyColumn → List ValueTree → ℕ → List ℕ
path_to columns key n = path (take n columns) (take n key)

-- the folder of the key column at this place, the first at 0; empty past the last
abbrev pub folder_at : List KeyColumn → List ValueTree → ℕ → List ℕ
folder_at columns key n = get_or (folders columns key) n []

-- a key that can partition can do so by its first columns
abbrev pub FewerCanPartition : Type 0
FewerCanPartition = (n : ℕ) (columns : List KeyColumn) (key : List ValueTree) → CanPartition columns key → CanPartition (take n columns) (take n key)

-- the folder of each column is in that of the columns before it; that of all columns is the path of the key
pub record AreNested (columns : List KeyColumn) (key : List ValueTree) : Type 0 where
  pub whole : path_to columns key (length columns) ≡ path columns key
  pub names : (n : ℕ) → n < length columns → IsPlainName (folder_at columns key n)
  pub nest : (n : ℕ) → n < length columns → path_to columns key (suc n) ≡ name_in (path_to columns key n) (folder_at columns key n)

-- the folders of each key nest
abbrev pub FoldersNest : Type 0
FoldersNest = (columns : List KeyColumn) (key : List ValueTree) → IsTrue (is_key columns key) → AreNested columns key

-- the name of each part file is a name within a folder
abbrev pub PartNamesArePlain : Type 0
PartNamesArePlain = (number : ℕ) → number < 2 ^ 64 → IsPlainName (part_name_of number)
