-- The test whether a struct has bytes: Thrift's compact protocol, "Struct Encoding", "List and Set", "Map".
use Rattle.std.specs.Prelude.{ℕ, ◌-◌, ◌^◌, ℤ, nat_lt, ◌==◌, Bool, true, ◌&&◌, length}
use Rattle.bits.specs.Varint.{zigzag_of}
use Rattle.thrift_compact.specs.Tree.{Node, yes, no, flag, i8, i16, i32, i64, double, binary, list, set, empty_map, map, struct, Nodes, no_nodes, node, Pairs, no_pairs, pair, Fields, no_fields, field, count, count_pairs}
use Rattle.thrift_compact.specs.Compact.{kind}
use Rattle.thrift_compact.specs.Shapes.{is_of_type}

-- a signed number of this many bits
unfoldable pub has_bits : ℕ → ℤ → Bool
has_bits bits z = nat_lt (zigzag_of z) (2 ^ bits)

-- a size that a varint can say
unfoldable pub is_size : ℕ → Bool
is_size n = nat_lt n (2 ^ 64)

-- a field can have this id, and this value: it has a type
unfoldable pub is_field : ℤ → Node → Bool
is_field id x = nat_lt (kind x) 16 && nat_lt (zigzag_of id) (2 ^ 16)

-- a list or a set of this type can have this many elements
unfoldable pub is_list : ℕ → ℕ → Bool
is_list k n = nat_lt k 16 && nat_lt n (2 ^ 64)

-- a map of these types can have this number of pairs: there is one
unfoldable pub is_map : ℕ → ℕ → ℕ → Bool
is_map k v pairs = nat_lt k 16 && (nat_lt v 16 && (nat_lt 0 pairs && nat_lt pairs (2 ^ 64)))

-- a value that can be written, in which lists, sets, maps and structs nest at most `deep` levels
abbrev mutual
  pub can_write : ℕ → Node → Bool
  can_write deep yes = true
  can_write deep no = true
  can_write deep (flag b) = true
  can_write deep (i8 z) = has_bits 8 z
  can_write deep (i16 z) = has_bits 16 z
  can_write deep (i32 z) = has_bits 32 z
  can_write deep (i64 z) = has_bits 64 z
  can_write deep (double bytes) = length bytes == 8
  can_write deep (binary text) = is_size (length text)
  can_write deep (list k xs) = nat_lt 0 deep && (is_list k (count xs) && can_write_each (deep - 1) k xs)
  can_write deep (set k xs) = nat_lt 0 deep && (is_list k (count xs) && can_write_each (deep - 1) k xs)
  can_write deep empty_map = nat_lt 0 deep
  can_write deep (map k v ps) = nat_lt 0 deep && (is_map k v (count_pairs ps) && can_write_pairs (deep - 1) k v ps)
  can_write deep (struct fs) = nat_lt 0 deep && can_write_fields (deep - 1) fs

  -- the elements of a list or a set of this type
  pub can_write_each : ℕ → ℕ → Nodes → Bool
  can_write_each deep k no_nodes = true
  can_write_each deep k (node x xs) = is_of_type k x && can_write deep x && can_write_each deep k xs

  -- the pairs of a map of these types
  pub can_write_pairs : ℕ → ℕ → ℕ → Pairs → Bool
  can_write_pairs deep k v no_pairs = true
  can_write_pairs deep k v (pair x y ps) = is_of_type k x && is_of_type v y && can_write deep x && can_write deep y && can_write_pairs deep k v ps

  -- the fields of a struct
  pub can_write_fields : ℕ → Fields → Bool
  can_write_fields deep no_fields = true
  can_write_fields deep (field id x fs) = is_field id x && can_write deep x && can_write_fields deep fs
