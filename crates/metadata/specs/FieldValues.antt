-- What the fields of a struct give to a record.
use Rattle.std.specs.Prelude.{ℕ, ℤ, Bool, true, false, List, [], ◌∷◌, Option, Some, None, if◌then◌else◌}
use Rattle.std.specs.Ordering.{int_eq}
use Rattle.thrift_compact.specs.Tree.{Node, yes, no, i32, i64, binary, list, struct, Nodes, no_nodes, node, Fields, no_fields, field}

infixl 10 ◌>>=◌
-- applies f to the value if there is one, and is None otherwise
abbrev pub ◌>>=◌ : {A B : Type 0} → Option A → (A → Option B) → Option B
(Some x) >>= f = f x
None >>= f = None

-- the values of all fields with this id, in order
abbrev pub all_with : ℤ → Fields → List Node
all_with id no_fields = []
all_with id (field z x fs) = if int_eq z id then x ∷ all_with id fs else all_with id fs

-- the later of two values; the first one if there is no later one
abbrev pub later : {X : Type 0} → X → Option X → Option X
later x (Some y) = Some y
later x None = Some x

-- Each of the values is read. None: one of them cannot be read. Some None: there is none. Else the last of them.
abbrev pub last_of : {X : Type 0} → (Node → Option X) → List Node → Option (Option X)
last_of read [] = Some None
last_of read (x ∷ xs) = read x >>= λ v. last_of read xs >>= λ l. Some (later v l)

-- the value of the last field with this id; Some None if there is no such field, None if one of them cannot be read
abbrev pub known : {X : Type 0} → (Node → Option X) → ℤ → Fields → Option (Option X)
known read id fs = last_of read (all_with id fs)

-- the value of a field that has to be there: of the last one with this id; None if there is none, or one of them cannot be read
abbrev pub needed : {X : Type 0} → (Node → Option X) → ℤ → Fields → Option X
needed read id fs = known read id fs >>= λ found. found

-- the number of an i32 value; None for a value of another type
abbrev pub int32 : Node → Option ℤ
int32 (i32 z) = Some z
int32 _ = None

-- the number of an i64 value; None for a value of another type
abbrev pub int64 : Node → Option ℤ
int64 (i64 z) = Some z
int64 _ = None

-- the truth of a boolean field; None for anything else, also for a boolean in a list
abbrev pub boolean : Node → Option Bool
boolean yes = Some true
boolean no = Some false
boolean _ = None

-- the bytes of a binary value, whether or not they are UTF-8; None for a value of another type
abbrev pub text : Node → Option (List ℕ)
text (binary s) = Some s
text _ = None

-- the fields of a struct; None for a value of another type
abbrev pub tree : Node → Option Fields
tree (struct fs) = Some fs
tree _ = None

-- a struct, whatever its fields are; None for a value of another type
abbrev pub any_struct : Node → Option (Unit {0})
any_struct (struct fs) = Some tt
any_struct _ = None

-- the record that a struct is, by a reader of its fields; None for a value of another type, or if the reader gives none
abbrev pub record_by : {X : Type 0} → (Fields → Option X) → Node → Option X
record_by read (struct fs) = read fs
record_by read _ = None

-- the values of a list, each read by the same reader; None if one of them cannot be read
abbrev pub each_of : {X : Type 0} → (Node → Option X) → Nodes → Option (List X)
each_of read no_nodes = Some []
each_of read (node x xs) = read x >>= λ v. each_of read xs >>= λ vs. Some (v ∷ vs)

-- the values of a list, each read by the same reader, whatever type the list announces; None for a value of another type
abbrev pub list_by : {X : Type 0} → (Node → Option X) → Node → Option (List X)
list_by read (list k xs) = each_of read xs
list_by read _ = None
