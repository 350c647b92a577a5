-- Tests of columns and keys, and the parts of a path.
use Rattle.std.specs.Prelude.{◌≡◌, ℕ, ◌+◌, ◌<◌, nat_le, nat_eq, Bool, true, false, not, ◌&&◌, ◌||◌, List, [], ◌∷◌, ◌++◌, length, Option, MatchOption, if◌then◌else◌}
use Rattle.std.specs.List.{list_any, join_with_byte}
use Rattle.std.specs.Str.{bytes_eq}
use Rattle.schema.specs.Values.{ValueTree}
use Rattle.schema.specs.Keys.{KeyColumn}
use Rattle.partition.specs.Folders.{is_plain, escaped, is_key_value, folder}

-- the two columns share a name or a place
abbrev pub clashes : KeyColumn → KeyColumn → Bool
clashes c d = bytes_eq c.name d.name || nat_eq d.at c.at

-- the name is not empty
abbrev pub is_named : List ℕ → Bool
is_named [] = false
is_named (b ∷ name) = true

-- each column has a name, and clashes with none after it
abbrev pub are_apart : List KeyColumn → Bool
are_apart [] = true
are_apart (c ∷ columns) = (is_named c.name && not (list_any (clashes c) columns)) && are_apart columns

-- at most eight columns, each with a name, of which no two share a name or a place
abbrev pub are_key_columns : List KeyColumn → Bool
are_key_columns columns = nat_le (length columns) 8 && are_apart columns

-- the value is of the column's type, and its folder is within 255 bytes
abbrev pub has_folder : KeyColumn → ValueTree → Bool
has_folder c v = is_key_value c.kind v && nat_le (length (folder c v)) 255

-- one value for each column, each with its folder
abbrev pub have_folders : List KeyColumn → List ValueTree → Bool
have_folders [] [] = true
have_folders (c ∷ columns) (v ∷ key) = has_folder c v && have_folders columns key
have_folders _ _ = false

-- the columns and the key can partition
abbrev pub can_be : List KeyColumn → List ValueTree → Bool
can_be columns key = are_key_columns columns && have_folders columns key

-- how many bytes stand for this byte in the escaped form of a text
abbrev pub escaped_size : ℕ → ℕ
escaped_size b = if is_plain b then 1 else 3

-- how many of `room` bytes the escaped form of a text leaves; None if it is longer
abbrev pub IsRoomAfter : ℕ → List ℕ → Option ℕ → Type 0
IsRoomAfter room text result = MatchOption result (room < length (escaped text)) (λ left. left + length (escaped text) ≡ room)

-- the folders, with a separator before the first and slashes between
abbrev pub joined : List ℕ → List (List ℕ) → List ℕ
joined separator [] = []
joined separator (f ∷ fs) = separator ++ join_with_byte 47 (f ∷ fs)
