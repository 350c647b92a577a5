-- How many bytes the shortest spelling of a struct takes: Thrift's compact protocol, "Integer encoding", "Struct Encoding", "List and Set", "Map".
use Rattle.std.specs.Prelude.{ℕ, zero, suc, ◌+◌, ◌^◌, ◌≤◌, ℤ, pos, negsuc, ◌-ℤ◌, Bool, false, List, length, nat_le, nat_lt, ◌&&◌, if◌then◌else◌}
use Rattle.bits.specs.Varint.{zigzag_of}
use Rattle.bits.specs.Codec.{Appends}
use Rattle.thrift_compact.specs.Tree.{Node, yes, no, flag, i8, i16, i32, i64, double, binary, list, set, empty_map, map, struct, Nodes, no_nodes, node, Pairs, no_pairs, pair, Fields, no_fields, field, count, count_pairs}
use Rattle.thrift_compact.specs.Compact.{IsThrift}

-- the shortest varint of n, which has at most k + 1 groups of seven bits: a further byte is needed from each power of 128 on
unfoldable pub size_varint : ℕ → ℕ → ℕ
size_varint zero n = 1
size_varint (suc k) n = if nat_le (128 ^ k) n then suc k else size_varint k n

-- how many bytes a size takes: a varint of at most ten groups of seven bits
abbrev pub size_length : ℕ → ℕ
size_length n = size_varint 10 n

-- how many bytes an i64 takes: a zigzag varint of at most ten groups of seven bits
abbrev pub size_i64 : ℤ → ℕ
size_i64 z = size_varint 10 (zigzag_of z)

-- how many bytes an i32 takes: a zigzag varint of at most five groups of seven bits
abbrev pub size_i32 : ℤ → ℕ
size_i32 z = size_varint 5 (zigzag_of z)

-- how many bytes an i16 takes: a zigzag varint of at most three groups of seven bits
abbrev pub size_i16 : ℤ → ℕ
size_i16 z = size_varint 3 (zigzag_of z)

-- how many bytes the header of a list or a set of n elements takes
abbrev pub size_list_head : ℕ → ℕ
size_list_head n = if nat_le n 14 then 1 else 1 + size_length n

-- 1 to 15, the steps of a short header
abbrev pub is_step : ℤ → Bool
is_step (pos n) = nat_lt 0 n && nat_le n 15
is_step (negsuc n) = false

-- how many bytes the header of a field takes: one where the step is 1 to 15, else one and those of the id
abbrev pub size_field_head : ℤ → ℤ → ℕ
size_field_head previous id = if is_step (id -ℤ previous) then 1 else 1 + size_i16 id

abbrev mutual
  pub size_value : Node → ℕ
  size_value yes = 0
  size_value no = 0
  size_value (flag b) = 1
  size_value (i8 z) = 1
  size_value (i16 z) = size_i16 z
  size_value (i32 z) = size_i32 z
  size_value (i64 z) = size_i64 z
  size_value (double text) = 8
  size_value (binary text) = size_length (length text) + length text
  size_value (list k xs) = size_list_head (count xs) + size_elements xs
  size_value (set k xs) = size_list_head (count xs) + size_elements xs
  size_value empty_map = 1
  size_value (map k v ps) = size_length (count_pairs ps) + 1 + size_pairs ps
  size_value (struct fs) = size_fields fs (pos 0)

  pub size_elements : Nodes → ℕ
  size_elements no_nodes = 0
  size_elements (node x xs) = size_value x + size_elements xs

  pub size_pairs : Pairs → ℕ
  size_pairs no_pairs = 0
  size_pairs (pair x y ps) = size_value x + size_value y + size_pairs ps

  -- the fields after a previous one, and the byte that ends them
  pub size_fields : Fields → ℤ → ℕ
  size_fields no_fields previous = 1
  size_fields (field id x fs) previous = size_field_head previous id + size_value x + size_fields fs id

-- how many bytes the shortest spelling of a struct takes, with the byte that ends it
abbrev pub size_struct : Fields → ℕ
size_struct fs = size_fields fs (pos 0)

-- the bytes of `new` are those of `old` and at most `size_struct` more, which stand for the struct
abbrev pub AppendsStruct : Fields → List ℕ → List ℕ → Type 0
AppendsStruct fs old new = Appends (λ bytes used. IsThrift bytes fs used) (size_struct fs) old new

-- no bytes that stand for a struct are fewer than its shortest spelling takes
abbrev pub NoSpellingIsShorter : Type 0
NoSpellingIsShorter = (bytes : List ℕ) (fields : Fields) (used : ℕ) → IsThrift bytes fields used → size_struct fields ≤ used
