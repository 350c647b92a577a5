-- A bound on the length of a struct's shortest spelling that computes: numbers by the greatest varint of their type.
use Rattle.std.proofs.Common.{ℕ, ◌+◌, ◌≤◌, arith}
use Rattle.std.specs.Prelude.{ℤ, pos, ◌-ℤ◌, length, nat_le, if◌then◌else◌, Bool, true, false}
use Rattle.bits.specs.Varint.{zigzag_of}
use Rattle.thrift_compact.specs.Tree.{Node, yes, no, flag, i8, i16, i32, i64, double, binary, list, set, empty_map, map, struct, Nodes, no_nodes, node, Pairs, no_pairs, pair, Fields, no_fields, field, count, count_pairs}
use Rattle.thrift_compact.specs.Length.{size_length, size_i16, size_list_head, size_field_head, is_step, size_value, size_elements, size_pairs, size_fields, size_struct}
use Rattle.thrift_compact.proofs.Sizes.{size_at_most}

abbrev pub most_list_head : ℕ → ℕ
most_list_head n = if nat_le n 14 then 1 else 11

abbrev pub most_field_head : ℤ → ℤ → ℕ
most_field_head previous id = if is_step (id -ℤ previous) then 1 else 4

abbrev mutual
  pub most_value : Node → ℕ
  most_value yes = 0
  most_value no = 0
  most_value (flag b) = 1
  most_value (i8 z) = 1
  most_value (i16 z) = 3
  most_value (i32 z) = 5
  most_value (i64 z) = 10
  most_value (double text) = 8
  most_value (binary text) = 10 + length text
  most_value (list k xs) = most_list_head (count xs) + most_elements xs
  most_value (set k xs) = most_list_head (count xs) + most_elements xs
  most_value empty_map = 1
  most_value (map k v ps) = 11 + most_pairs ps
  most_value (struct fs) = most_fields fs (pos 0)

  pub most_elements : Nodes → ℕ
  most_elements no_nodes = 0
  most_elements (node x xs) = most_value x + most_elements xs

  pub most_pairs : Pairs → ℕ
  most_pairs no_pairs = 0
  most_pairs (pair x y ps) = most_value x + most_value y + most_pairs ps

  pub most_fields : Fields → ℤ → ℕ
  most_fields no_fields previous = 1
  most_fields (field id x fs) previous = most_field_head previous id + most_value x + most_fields fs id

abbrev pub most_struct : Fields → ℕ
most_struct fs = most_fields fs (pos 0)

if_both : (b : Bool) (w x y z : ℕ) → w ≤ y → x ≤ z → (if b then w else x) ≤ (if b then y else z)
if_both true w x y z h g = h
if_both false w x y z h g = g

list_head_at_most : (n : ℕ) → size_list_head n ≤ most_list_head n
list_head_at_most n = let size = size_at_most 10 n (omega arith) in if_both (nat_le n 14) 1 (1 + size_length n) 1 11 (omega arith) (omega arith)

field_head_at_most : (previous id : ℤ) → size_field_head previous id ≤ most_field_head previous id
field_head_at_most previous id = let size = size_at_most 3 (zigzag_of id) (omega arith) in if_both (is_step (id -ℤ previous)) 1 (1 + size_i16 id) 1 4 (omega arith) (omega arith)

mutual
  pub value_at_most : (x : Node) → size_value x ≤ most_value x
  value_at_most yes = omega arith
  value_at_most no = omega arith
  value_at_most (flag b) = omega arith
  value_at_most (i8 z) = omega arith
  value_at_most (i16 z) = size_at_most 3 (zigzag_of z) (omega arith)
  value_at_most (i32 z) = size_at_most 5 (zigzag_of z) (omega arith)
  value_at_most (i64 z) = size_at_most 10 (zigzag_of z) (omega arith)
  value_at_most (double text) = omega arith
  value_at_most (binary text) = omega (arith, size_at_most 10 (length text) (omega arith))
  value_at_most (list k xs) = omega (arith, list_head_at_most (count xs), elements_at_most xs)
  value_at_most (set k xs) = omega (arith, list_head_at_most (count xs), elements_at_most xs)
  value_at_most empty_map = omega arith
  value_at_most (map k v ps) = omega (arith, size_at_most 10 (count_pairs ps) (omega arith), pairs_at_most ps)
  value_at_most (struct fs) = fields_at_most fs (pos 0)

  pub elements_at_most : (xs : Nodes) → size_elements xs ≤ most_elements xs
  elements_at_most no_nodes = omega arith
  elements_at_most (node x xs) = omega (arith, value_at_most x, elements_at_most xs)

  pub pairs_at_most : (ps : Pairs) → size_pairs ps ≤ most_pairs ps
  pairs_at_most no_pairs = omega arith
  pairs_at_most (pair x y ps) = omega (arith, value_at_most x, value_at_most y, pairs_at_most ps)

  pub fields_at_most : (fs : Fields) (previous : ℤ) → size_fields fs previous ≤ most_fields fs previous
  fields_at_most no_fields previous = omega arith
  fields_at_most (field id x fs) previous = omega (arith, field_head_at_most previous id, value_at_most x, fields_at_most fs id)

pub struct_at_most : (fs : Fields) → size_struct fs ≤ most_struct fs
struct_at_most fs = fields_at_most fs (pos 0)
