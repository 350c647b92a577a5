-- What stands at the front of bytes lies within them.
use Rattle.std.proofs.Common.{ℕ, ◌+◌, ◌≤◌, List, length, drop, arith}
use Rattle.std.specs.Prelude.{ℤ, pos}
use Rattle.std.proofs.lemmas.List.{length-drop}
use Rattle.thrift_compact.specs.Tree.{Node, yes, no, flag, i8, i16, i32, i64, double, binary, list, set, empty_map, map, struct, Nodes, no_nodes, node, Pairs, no_pairs, pair, Fields, no_fields, field, count}
use Rattle.thrift_compact.specs.Compact.{IsValue, AreElements, ArePairs, AreFields, kind}
use Rattle.thrift_compact.proofs.Parts.{list_head_within, field_head_within}

mutual
  pub value_within : (x : Node) (bytes : List ℕ) (u : ℕ) → IsValue x bytes u → u ≤ length bytes
  value_within yes bytes u p = omega (arith, p)
  value_within no bytes u p = omega (arith, p)
  value_within (flag b) bytes u p = omega (arith, p.some, p.one)
  value_within (i8 z) bytes u p = omega (arith, p.byte.some, p.byte.one)
  value_within (i16 z) bytes u p = p.0.within
  value_within (i32 z) bytes u p = p.0.within
  value_within (i64 z) bytes u p = p.within
  value_within (double text) bytes u p = omega (arith, p.within, p.total)
  value_within (binary text) bytes u p = omega (arith, p.within, p.total)
  value_within (list k xs) bytes u p = let h = list_head_within bytes k (count xs) p.0 p.2 in omega (arith, h.1, elements_within xs k (drop p.0 bytes) p.1 p.3, length-drop p.0 bytes, p.4)
  value_within (set k xs) bytes u p = let h = list_head_within bytes k (count xs) p.0 p.2 in omega (arith, h.1, elements_within xs k (drop p.0 bytes) p.1 p.3, length-drop p.0 bytes, p.4)
  value_within empty_map bytes u p = p.within
  value_within (map k v ps) bytes u p = omega (arith, p.2.total, p.2.byte.some, length-drop p.2.head bytes, pairs_within ps k v (drop p.0 bytes) p.1 p.3, length-drop p.0 bytes, p.4)
  value_within (struct fs) bytes u p = fields_within fs (pos 0) bytes u p

  pub elements_within : (xs : Nodes) (k : ℕ) (bytes : List ℕ) (u : ℕ) → AreElements xs k bytes u → u ≤ length bytes
  elements_within no_nodes k bytes u p = omega (arith, p)
  elements_within (node x xs) k bytes u p = omega (arith, value_within x bytes p.1.0 p.1.2, elements_within xs k (drop p.1.0 bytes) p.1.1 p.1.3, length-drop p.1.0 bytes, p.1.4)

  pub pairs_within : (ps : Pairs) (k v : ℕ) (bytes : List ℕ) (u : ℕ) → ArePairs ps k v bytes u → u ≤ length bytes
  pairs_within no_pairs k v bytes u p = omega (arith, p)
  pairs_within (pair x y ps) k v bytes u p =
      omega (arith, value_within x bytes p.2.0 p.2.3, value_within y (drop p.2.0 bytes) p.2.1 p.2.4, pairs_within ps k v (drop (p.2.0 + p.2.1) bytes) p.2.2 p.2.5, length-drop p.2.0 bytes, length-drop (p.2.0 + p.2.1) bytes, p.2.6)

  pub fields_within : (fs : Fields) (previous : ℤ) (bytes : List ℕ) (u : ℕ) → AreFields fs previous bytes u → u ≤ length bytes
  fields_within no_fields previous bytes u p = omega (arith, p.some, p.one)
  fields_within (field id x fs) previous bytes u p =
      let h = field_head_within previous bytes id (kind x) p.0 p.3 in
      omega (arith, h.1, value_within x (drop p.0 bytes) p.1 p.4, fields_within fs id (drop (p.0 + p.1) bytes) p.2 p.5, length-drop p.0 bytes, length-drop (p.0 + p.1) bytes, p.6)
