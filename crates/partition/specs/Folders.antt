-- The folders of a key and the names of part files: fastparquet, the "hive" scheme; bytes are escaped as in RFC 3986.
use Rattle.std.specs.Prelude.{◌≡◌, ◌≢◌, ℕ, ◌<◌, ◌≤◌, ◌^◌, Bool, true, false, ◌&&◌, ◌||◌, ◌==◌, ◌⊎◌, List, [], ◌∷◌, ◌++◌, length, map, codes, IsTrue, if◌then◌else◌}
use Rattle.std.specs.List.{flat_map, join_with_byte, AllByRecursion}
use Rattle.std.specs.Char.{is_ascii_alphanumeric}
use Rattle.std.specs.Fmt.{decimal, signed_decimal}
use Rattle.percent_encoding.specs.Percent.{percent_encode_byte}
use Rattle.schema.specs.declared.key.KeyKind.{KeyKind}
use Rattle.schema.specs.Values.{ValueTree, boolean, integer, bytes}
use Rattle.schema.specs.Fits.{fits_leaf}
use Rattle.schema.specs.Law.{AllDiffer, names}
use Rattle.schema.specs.Shape.{Fields}
use Rattle.schema.specs.Keys.{KeyColumn, key_type, places_of, AreDistinct, AreKeys}

-- a byte that stands for itself: an ASCII letter, a digit, `_`, `.` or `-`
abbrev pub is_plain : ℕ → Bool
is_plain b = is_ascii_alphanumeric b || (b == 95 || (b == 46 || b == 45))

-- a text in which each byte that does not stand for itself is written as `%` and two upper-case hexadecimal digits
unfoldable pub escaped : List ℕ → List ℕ
escaped text = flat_map (λ b. if is_plain b then b ∷ [] else percent_encode_byte b) text

-- a value as text
abbrev pub value_text : ValueTree → List ℕ
value_text (boolean true) = codes "true"
value_text (boolean false) = codes "false"
value_text (integer z) = signed_decimal z
value_text (bytes s) = s
value_text _ = []

-- the folder of a value: `name=value`, both escaped
abbrev pub folder : KeyColumn → ValueTree → List ℕ
folder column v = escaped column.name ++ 61 ∷ escaped (value_text v)

-- the folders of a key, one for each key column, in their order
abbrev pub folders : List KeyColumn → List ValueTree → List (List ℕ)
folders (c ∷ columns) (v ∷ key) = folder c v ∷ folders columns key
folders _ _ = []

-- the path of a key: its folders, one in another, with slashes between
abbrev pub path : List KeyColumn → List ValueTree → List ℕ
path columns key = join_with_byte 47 (folders columns key)

-- the value is not an empty text
abbrev pub is_filled : ValueTree → Bool
is_filled (bytes []) = false
is_filled _ = true

-- a value is of a key column's type; a text is not empty
abbrev pub is_key_value : KeyKind → ValueTree → Bool
is_key_value kind v = fits_leaf (key_type kind) v && is_filled v

-- one value for each column, of the column's type and not an empty text
abbrev pub is_key : List KeyColumn → List ValueTree → Bool
is_key [] [] = true
is_key (c ∷ columns) (v ∷ key) = is_key_value c.kind v && is_key columns key
is_key _ _ = false

-- columns that can partition: at most eight, each with a name, no name twice and no place twice
pub record AreKeyColumns (columns : List KeyColumn) : Type 0 where
  pub at_most_eight : length columns ≤ 8
  pub named : AllByRecursion (λ (c : KeyColumn). c.name ≢ []) columns
  pub names_differ : AllDiffer (map (λ c. c.name) columns)
  pub places_differ : AreDistinct (places_of columns)

-- a key that can partition: one value for each column, and no folder longer than 255 bytes
pub record CanPartition (columns : List KeyColumn) (key : List ValueTree) : Type 0 where
  pub keyed : AreKeyColumns columns
  pub values : IsTrue (is_key columns key)
  pub within_limits : AllByRecursion (λ f. length f ≤ 255) (folders columns key)

-- a path names one key
abbrev pub PathsNameKeys : Type 0
PathsNameKeys = (columns : List KeyColumn) (key other : List ValueTree) → IsTrue (is_key columns key) → IsTrue (is_key columns other)
    → path columns key ≡ path columns other → key ≡ other

-- the name of the part file of group N: `part.N.parquet`
abbrev pub part_name_of : ℕ → List ℕ
part_name_of number = codes "part." ++ (decimal number ++ codes ".parquet")

-- a name in a folder; in the dataset's own folder, which is the empty text, only the name
abbrev pub name_in : List ℕ → List ℕ → List ℕ
name_in [] name = name
name_in (b ∷ rest) name = (b ∷ rest) ++ 47 ∷ name

-- the part file of a group with this key and number
abbrev pub part_path_of : List KeyColumn → List ValueTree → ℕ → List ℕ
part_path_of columns key number = name_in (path columns key) (part_name_of number)

-- the path of a part file names one key and one number: those of other keys, or with other numbers, differ
abbrev pub PartPathsNameParts : Type 0
PartPathsNameParts = (columns : List KeyColumn) (key other : List ValueTree) (number another : ℕ) → IsTrue (is_key columns key) → IsTrue (is_key columns other)
    → number < 2 ^ 64 → another < 2 ^ 64 → part_path_of columns key number ≡ part_path_of columns other another → (key ≡ other) × (number ≡ another)

-- the table's description, and the file that it is written to first
abbrev pub IsRoot : List ℕ → Type 0
IsRoot path = (path ≡ codes "_metadata") ⊎ (path ≡ codes "_metadata.new")

-- the path of a part file is not a root, a root is not a folder above a part file, and a part file is not a folder above a root
abbrev pub PartPathsAreNotRoots : Type 0
PartPathsAreNotRoots = (columns : List KeyColumn) (key : List ValueTree) (number : ℕ) (root : List ℕ) → number < 2 ^ 64 → IsRoot root
    → (part_path_of columns key number ≢ root) × ((rest : List ℕ) → root ≢ part_path_of columns key number ++ 47 ∷ rest) × ((rest : List ℕ) → part_path_of columns key number ≢ root ++ 47 ∷ rest)

-- key columns of a schema can partition
abbrev pub KeysCanPartition : Type 0
KeysCanPartition = (keys : List KeyColumn) (fs : Fields) → AllDiffer (names fs) → AreKeys keys fs → AreKeyColumns keys
