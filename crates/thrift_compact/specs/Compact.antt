-- How trees are spelled at the start of bytes: Thrift's compact protocol, "Struct Encoding", "List and Set", "Map".
use Rattle.std.specs.Prelude.{◌≡◌, ◌⊎◌, ℕ, ◌+◌, ◌*◌, ◌<◌, ◌≤◌, ℤ, pos, ◌+ℤ◌, List, length, take, drop, slice_index, FitsSigned}
use Rattle.std.specs.Int.{w8, w16, w32, cast_signed}
use Rattle.bits.specs.Varint.{IsUleb, zigzag_of}
use Rattle.thrift_compact.specs.Tree.{Node, yes, no, flag, i8, i16, i32, i64, double, binary, list, set, empty_map, map, struct, Nodes, no_nodes, node, Pairs, no_pairs, pair, Fields, no_fields, field, fields_nest, count, count_pairs}

-- the first byte
pub record IsByte (bytes : List ℕ) (b used : ℕ) : Type 0 where
  pub some : 1 ≤ length bytes
  pub is : slice_index bytes 0 ≡ b
  pub one : used ≡ 1

-- a signed byte
pub record IsSignedByte (bytes : List ℕ) (z : ℤ) (used : ℕ) : Type 0 where
  pub number : ℕ
  pub byte : IsByte bytes number used
  pub is : z ≡ cast_signed w8 number

-- the first eight bytes
pub record IsDouble (bytes text : List ℕ) (used : ℕ) : Type 0 where
  pub within : 8 ≤ length bytes
  pub is : take 8 bytes ≡ text
  pub total : used ≡ 8

-- a length, and that many bytes
pub record IsBinary (bytes text : List ℕ) (used : ℕ) : Type 0 where
  pub head : ℕ
  pub size : IsUleb bytes (length text) head
  pub within : head + length text ≤ length bytes
  pub is : take (length text) (drop head bytes) ≡ text
  pub total : used ≡ head + length text

-- a zigzag varint
abbrev pub IsSigned : List ℕ → ℤ → ℕ → Type 0
IsSigned bytes z used = IsUleb bytes (zigzag_of z) used

-- the type of a field's value; 16 is none
abbrev pub kind : Node → ℕ
kind yes = 1
kind no = 2
kind (flag b) = 16
kind (i8 z) = 3
kind (i16 z) = 4
kind (i32 z) = 5
kind (i64 z) = 6
kind (double bytes) = 7
kind (binary text) = 8
kind (list k xs) = 9
kind (set k xs) = 10
kind empty_map = 11
kind (map k v ps) = 11
kind (struct fs) = 12

-- what an element of this type may be: a boolean one is a byte
abbrev pub IsElement : ℕ → Node → Type 0
IsElement k yes = ⊥
IsElement k no = ⊥
IsElement k (flag b) = (k ≡ 1) ⊎ (k ≡ 2)
IsElement k x = k ≡ kind x

-- a short header has the step from the previous field above the type
pub record IsShort (previous : ℤ) (bytes : List ℕ) (id : ℤ) (k used : ℕ) : Type 0 where
  pub step : ℕ
  pub low : 1 ≤ step
  pub high : step ≤ 15
  pub byte : IsByte bytes (16 * step + k) used
  pub is : id ≡ previous +ℤ pos step

-- a long header has the type, then the id of the field
pub record IsLong (bytes : List ℕ) (id : ℤ) (k used : ℕ) : Type 0 where
  pub rest : ℕ
  pub byte : IsByte bytes k 1
  pub is : IsSigned (drop 1 bytes) id rest
  pub total : used ≡ 1 + rest

-- the header of a field of type k
abbrev pub IsFieldHead : ℤ → List ℕ → ℤ → ℕ → ℕ → Type 0
IsFieldHead previous bytes id k used = (1 ≤ k) × (k < 16) × FitsSigned w16 id × (IsShort previous bytes id k used ⊎ IsLong bytes id k used)

-- a long header of a list or a set has 15 above the type, and then the size
pub record IsLongList (bytes : List ℕ) (k n used : ℕ) : Type 0 where
  pub rest : ℕ
  pub byte : IsByte bytes (240 + k) 1
  pub is : IsUleb (drop 1 bytes) n rest
  pub total : used ≡ 1 + rest

-- the header of a list or a set: a size of at most 14 above the type, or a long one
abbrev pub IsListHead : List ℕ → ℕ → ℕ → ℕ → Type 0
IsListHead bytes k n used = (k < 16) × (((n ≤ 14) × IsByte bytes (16 * n + k) used) ⊎ IsLongList bytes k n used)

-- the header of a map with pairs: the size, then the key's type above the value's
pub record IsMapHead (bytes : List ℕ) (k v n used : ℕ) : Type 0 where
  pub head : ℕ
  pub size : IsUleb bytes n head
  pub some : 1 ≤ n
  pub key : k < 16
  pub value : v < 16
  pub byte : IsByte (drop head bytes) (16 * k + v) 1
  pub total : used ≡ head + 1

abbrev mutual
  -- the value of its type
  pub IsValue : Node → List ℕ → ℕ → Type 0
  IsValue yes bytes used = used ≡ 0
  IsValue no bytes used = used ≡ 0
  IsValue (flag b) bytes used = IsByte bytes b used
  IsValue (i8 z) bytes used = IsSignedByte bytes z used
  IsValue (i16 z) bytes used = IsSigned bytes z used × FitsSigned w16 z
  IsValue (i32 z) bytes used = IsSigned bytes z used × FitsSigned w32 z
  IsValue (i64 z) bytes used = IsSigned bytes z used
  IsValue (double text) bytes used = IsDouble bytes text used
  IsValue (binary text) bytes used = IsBinary bytes text used
  IsValue (list k xs) bytes used = (u v : ℕ) × IsListHead bytes k (count xs) u × AreElements xs k (drop u bytes) v × (used ≡ u + v)
  IsValue (set k xs) bytes used = (u v : ℕ) × IsListHead bytes k (count xs) u × AreElements xs k (drop u bytes) v × (used ≡ u + v)
  IsValue empty_map bytes used = IsUleb bytes 0 used
  IsValue (map k v ps) bytes used = (u w : ℕ) × IsMapHead bytes k v (count_pairs ps) u × ArePairs ps k v (drop u bytes) w × (used ≡ u + w)
  IsValue (struct fs) bytes used = AreFields fs (pos 0) bytes used

  -- elements of one type, one after the other
  pub AreElements : Nodes → ℕ → List ℕ → ℕ → Type 0
  AreElements no_nodes k bytes used = used ≡ 0
  AreElements (node x xs) k bytes used = IsElement k x × ((u v : ℕ) × IsValue x bytes u × AreElements xs k (drop u bytes) v × (used ≡ u + v))

  -- pairs of a key and a value, one after the other
  pub ArePairs : Pairs → ℕ → ℕ → List ℕ → ℕ → Type 0
  ArePairs no_pairs k v bytes used = used ≡ 0
  ArePairs (pair x y ps) k v bytes used =
      IsElement k x × IsElement v y × ((s t r : ℕ) × IsValue x bytes s × IsValue y (drop s bytes) t × ArePairs ps k v (drop (s + t) bytes) r × (used ≡ s + t + r))

  -- fields up to the byte 0 that ends them
  pub AreFields : Fields → ℤ → List ℕ → ℕ → Type 0
  AreFields no_fields previous bytes used = IsByte bytes 0 used
  AreFields (field id x fs) previous bytes used = (u v w : ℕ) × IsFieldHead previous bytes id (kind x) u × IsValue x (drop u bytes) v × AreFields fs id (drop (u + v) bytes) w × (used ≡ u + v + w)

-- the struct at the start, its values nested at most 32 levels
pub record IsThrift (bytes : List ℕ) (fields : Fields) (used : ℕ) : Type 0 where
  pub spelled : AreFields fields (pos 0) bytes used
  pub shallow : fields_nest fields ≤ 32
