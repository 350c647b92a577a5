-- The paths of files and folders, seen from the dataset's own folder, which is the empty string.
-- Each string is a name of its own: the disk joins nothing and follows nothing.
use Rattle.std.specs.Prelude.{◌≡◌, ◌≢◌, ◌<◌, ℕ, zero, suc, List, [], ◌∷◌, ◌++◌, length, take, slice_index, if◌then◌else◌, ◌==◌}

-- the code of '/'
abbrev pub slash : ℕ
slash = 47

-- the bytes before the last slash among the first n, or none of them where there is no slash
abbrev pub before_slash : List ℕ → ℕ → List ℕ
before_slash path zero = []
before_slash path (suc n) = if slice_index path n == slash then take n path else before_slash path n

-- the folder that a path lies in: the bytes before its last slash; without one it is the dataset's own folder
abbrev pub folder_of : List ℕ → List ℕ
folder_of path = before_slash path (length path)

-- what one folder can hold: a name has no slash and is not empty
pub record IsName (name : List ℕ) : Type 0 where
  pub some : name ≢ []
  pub plain : (i : ℕ) → i < length name → slice_index name i ≢ slash

-- the path of this name in this folder
abbrev pub path_in : List ℕ → List ℕ → List ℕ
path_in [] name = name
path_in (b ∷ rest) name = (b ∷ rest) ++ slash ∷ name

-- the bytes before one of a path's slashes name a folder on the way to it
abbrev pub IsOnTheWay : List ℕ → List ℕ → Type 0
IsOnTheWay folder path = (i : ℕ) × (i < length path) × (slice_index path i ≡ slash) × (folder ≡ take i path)
