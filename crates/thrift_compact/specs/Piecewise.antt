-- A struct that is written piece by piece: fields, a list whose elements come one after the other, more fields, the end: Thrift's compact
-- protocol, "Struct Encoding", "List and Set".
use Rattle.std.specs.Prelude.{◌≡◌, ℕ, ◌+◌, ◌≤◌, ℤ, pos, List, [], ◌∷◌, ◌++◌, length, drop}
use Rattle.bits.specs.Codec.{Appends}
use Rattle.thrift_compact.specs.Tree.{Node, list, struct, Fields, no_fields, field, nest, nodes_nest, fields_nest}
use Rattle.thrift_compact.specs.Compact.{kind, IsFieldHead, IsListHead, IsValue, AreElements, AreFields}
use Rattle.thrift_compact.specs.View.{nodes_of, fields_of}
use Rattle.thrift_compact.specs.Length.{size_field_head, size_list_head, size_value, size_elements, size_fields, AppendsStruct}

-- the first `used` bytes stand for fields after that of the id `previous`, without the byte that ends a struct, with values nested at most
-- `left` levels; `last` is the id of the last one, or `previous` if there is none
abbrev pub AreBegun : ℕ → Fields → ℤ → ℤ → List ℕ → ℕ → Type 0
AreBegun left no_fields previous last bytes used = (used ≡ 0) × (last ≡ previous)
AreBegun left (field id x fs) previous last bytes used =
    (u v w : ℕ) × IsFieldHead previous bytes id (kind x) u × ((nest x ≤ left) × IsValue x (drop u bytes) v) × AreBegun left fs id last (drop (u + v) bytes) w × (used ≡ u + v + w)

-- how many bytes the shortest spelling of fields after a previous one takes, without the byte that ends a struct
abbrev pub size_begun : Fields → ℤ → ℕ
size_begun no_fields previous = 0
size_begun (field id x fs) previous = size_field_head previous id + size_value x + size_begun fs id

-- the id of the last field; `previous` if there is none
abbrev pub last_id : Fields → ℤ → ℤ
last_id no_fields previous = previous
last_id (field id x fs) previous = last_id fs id

-- the id of the last field of a struct that is begun with these; 0 if there is none
abbrev pub last_of : List (ℤ × Node) → ℤ
last_of fs = last_id (fields_of fs) (pos 0)

-- the bytes of `new` are those of `old` and these fields of a struct, in the fewest bytes, without the byte that ends it
abbrev pub BeginsStruct : List (ℤ × Node) → List ℕ → List ℕ → Type 0
BeginsStruct fs old new = Appends (AreBegun 32 (fields_of fs) (pos 0) (last_of fs)) (size_begun (fields_of fs) (pos 0)) old new

-- The bytes of `new` are those of `old`, these fields of a struct, the start of a field that is a list of n elements of this type, and
-- the elements `xs` of it.
pub record BeginsList (fs : List (ℤ × Node)) (id : ℤ) (code n : ℕ) (xs : List Node) (old new : List ℕ) : Type 0 where
  pub before : List ℕ
  pub named : List ℕ
  pub sized : List ℕ
  pub begun : BeginsStruct fs old before
  pub head : Appends (λ bytes. IsFieldHead (last_of fs) bytes id 9) (size_field_head (last_of fs) id) before named
  pub size : Appends (λ bytes. IsListHead bytes code n) (size_list_head n) named sized
  pub elements : Appends (λ bytes used. (nodes_nest (nodes_of xs) ≤ 31) × AreElements (nodes_of xs) code bytes used) (size_elements (nodes_of xs)) sized new

-- a struct without fields is begun by no bytes
abbrev pub StructsBeginEmpty : Type 0
StructsBeginEmpty = (old : List ℕ) → BeginsStruct [] old old

-- a list all of whose elements are written is a field of the struct
abbrev pub ListsEnd : Type 0
ListsEnd = (fs : List (ℤ × Node)) (id : ℤ) (code : ℕ) (xs : List Node) (old new : List ℕ) → BeginsList fs id code (length xs) xs old new
    → BeginsStruct (fs ++ (id, list code (nodes_of xs)) ∷ []) old new

-- The bytes of `new` are those of `old`, these fields of a struct after one of the id `previous`, and the byte that ends it, in the
-- fewest bytes.
abbrev pub AppendsRest : Fields → ℤ → List ℕ → List ℕ → Type 0
AppendsRest fs previous old new = Appends (λ bytes used. (fields_nest fs ≤ 32) × AreFields fs previous bytes used) (size_fields fs previous) old new

-- a first field, and the rest of a struct after it, are a struct
abbrev pub RestsFollow : Type 0
RestsFollow = (id : ℤ) (x : Node) (rest : Fields) (old mid new : List ℕ) → BeginsStruct ((id, x) ∷ []) old mid → AppendsRest rest id mid new → AppendsStruct (field id x rest) old new

-- a struct behind the elements of a list of structs, in whose values 30 levels nest at most, is one more element
abbrev pub ListsGrow : Type 0
ListsGrow = (fs : List (ℤ × Node)) (id : ℤ) (n : ℕ) (xs : List Node) (x : Fields) (old mid new : List ℕ) → BeginsList fs id 12 n xs old mid → fields_nest x ≤ 30 → AppendsStruct x mid new
    → BeginsList fs id 12 n (xs ++ struct x ∷ []) old new
