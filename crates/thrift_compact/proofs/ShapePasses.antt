-- What has bytes has the shape.
use Rattle.std.proofs.Common.{◌≡◌, ℕ, ◌-◌, true, ◌&&◌, nat_lt, ◌≤◌, refl, arith, lt-ltb as less}
use Rattle.std.specs.Prelude.{pos}
use Rattle.std.proofs.lemmas.Bool.{and_parts, and_from as both, ltb-true as least}
use Rattle.thrift_compact.specs.Tree.{Node, yes, no as never, flag, i8, i16, i32, i64, double, binary, list, set, empty_map, map, struct, Nodes, no_nodes, node, Pairs, no_pairs, pair, Fields, no_fields, field, nest, nodes_nest, pairs_nest, fields_nest, count, count_pairs}
use Rattle.thrift_compact.specs.Compact.{kind}
use Rattle.thrift_compact.specs.inner.Writable.{is_field, is_list, is_map, can_write, can_write_each, can_write_pairs, can_write_fields}
use Rattle.thrift_compact.specs.Shapes.{StructsWithBytesHaveTheShape, ShapesNest, is_of_type, is_member, may_be_map, has_shape, each_has_shape, pairs_have_shape, fields_have_shape}
use Rattle.thrift_compact.proofs.Passed.{fields_pass}
use Rattle.thrift_compact.proofs.Tested.{field_parts, list_parts, map_parts}

of_map : (k v n : ℕ) → is_map k v n ≡ true → may_be_map k v n ≡ true
of_map k v n h = let p = map_parts k v n h in both (nat_lt k 16) (nat_lt v 16 && nat_lt 0 n) (less k 16 p.0) (both (nat_lt v 16) (nat_lt 0 n) (less v 16 p.1) (less 0 n p.2))

mutual
  value_shape : (d : ℕ) (x : Node) → can_write d x ≡ true → has_shape d x ≡ true
  value_shape d yes h = refl
  value_shape d never h = refl
  value_shape d (flag b) h = refl
  value_shape d (i8 z) h = refl
  value_shape d (i16 z) h = refl
  value_shape d (i32 z) h = refl
  value_shape d (i64 z) h = refl
  value_shape d (double text) h = refl
  value_shape d (binary text) h = refl
  value_shape d (list k xs) h = let p = and_parts (nat_lt 0 d) _ h in let q = and_parts (is_list k (count xs)) _ p.1 in
      both (nat_lt 0 d) (nat_lt k 16 && each_has_shape (d - 1) k xs) p.0 (both (nat_lt k 16) (each_has_shape (d - 1) k xs) (less k 16 (list_parts k (count xs) q.0).0) (each_shape (d - 1) k xs q.1))
  value_shape d (set k xs) h = let p = and_parts (nat_lt 0 d) _ h in let q = and_parts (is_list k (count xs)) _ p.1 in
      both (nat_lt 0 d) (nat_lt k 16 && each_has_shape (d - 1) k xs) p.0 (both (nat_lt k 16) (each_has_shape (d - 1) k xs) (less k 16 (list_parts k (count xs) q.0).0) (each_shape (d - 1) k xs q.1))
  value_shape d empty_map h = h
  value_shape d (map k v ps) h = let p = and_parts (nat_lt 0 d) _ h in let q = and_parts (is_map k v (count_pairs ps)) _ p.1 in
      both (nat_lt 0 d) (may_be_map k v (count_pairs ps) && pairs_have_shape (d - 1) k v ps) p.0 (both (may_be_map k v (count_pairs ps)) (pairs_have_shape (d - 1) k v ps) (of_map k v (count_pairs ps) q.0) (pairs_shape (d - 1) k v ps q.1))
  value_shape d (struct fs) h = let p = and_parts (nat_lt 0 d) _ h in both (nat_lt 0 d) (fields_have_shape (d - 1) fs) p.0 (fields_shape (d - 1) fs p.1)

  each_shape : (d k : ℕ) (xs : Nodes) → can_write_each d k xs ≡ true → each_has_shape d k xs ≡ true
  each_shape d k no_nodes h = refl
  each_shape d k (node x xs) h =
      let p = and_parts (is_of_type k x && can_write d x) (can_write_each d k xs) h in
      let q = and_parts (is_of_type k x) (can_write d x) p.0 in
      both (is_of_type k x && has_shape d x) (each_has_shape d k xs) (both (is_of_type k x) (has_shape d x) (q.0) (value_shape d x q.1)) (each_shape d k xs p.1)

  pairs_shape : (d k v : ℕ) (ps : Pairs) → can_write_pairs d k v ps ≡ true → pairs_have_shape d k v ps ≡ true
  pairs_shape d k v no_pairs h = refl
  pairs_shape d k v (pair x y ps) h =
      let p = and_parts (is_of_type k x && is_of_type v y && can_write d x && can_write d y) (can_write_pairs d k v ps) h in
      let q = and_parts (is_of_type k x && is_of_type v y && can_write d x) (can_write d y) p.0 in
      let r = and_parts (is_of_type k x && is_of_type v y) (can_write d x) q.0 in
      let s = and_parts (is_of_type k x) (is_of_type v y) r.0 in
      let key = both (is_of_type k x) (has_shape d x) (s.0) (value_shape d x r.1) in
      let value = both (is_of_type v y) (has_shape d y) (s.1) (value_shape d y q.1) in
      both ((is_of_type k x && has_shape d x) && (is_of_type v y && has_shape d y)) (pairs_have_shape d k v ps) (both (is_of_type k x && has_shape d x) (is_of_type v y && has_shape d y) key value) (pairs_shape d k v ps p.1)

  fields_shape : (d : ℕ) (fs : Fields) → can_write_fields d fs ≡ true → fields_have_shape d fs ≡ true
  fields_shape d no_fields h = refl
  fields_shape d (field id x fs) h =
      let p = and_parts (is_field id x && can_write d x) (can_write_fields d fs) h in
      let q = and_parts (is_field id x) (can_write d x) p.0 in
      both (is_member x && has_shape d x) (fields_have_shape d fs) (both (is_member x) (has_shape d x) (less (kind x) 16 (field_parts id x q.0).0) (value_shape d x q.1)) (fields_shape d fs p.1)

pub structs_with_bytes_have_the_shape : StructsWithBytesHaveTheShape
structs_with_bytes_have_the_shape d fs n h = fields_shape d fs (fields_pass d fs (pos 0) h.0 h.1 h.2.spelled n)

mutual
  value_nests : (d : ℕ) (x : Node) → has_shape d x ≡ true → nest x ≤ d
  value_nests d yes h = omega arith
  value_nests d never h = omega arith
  value_nests d (flag b) h = omega arith
  value_nests d (i8 z) h = omega arith
  value_nests d (i16 z) h = omega arith
  value_nests d (i32 z) h = omega arith
  value_nests d (i64 z) h = omega arith
  value_nests d (double text) h = omega arith
  value_nests d (binary text) h = omega arith
  value_nests d (list k xs) h = let p = and_parts (nat_lt 0 d) _ h in let q = and_parts (nat_lt k 16) _ p.1 in let some = least 0 d p.0 in omega (arith, some, each_nests (d - 1) k xs q.1)
  value_nests d (set k xs) h = let p = and_parts (nat_lt 0 d) _ h in let q = and_parts (nat_lt k 16) _ p.1 in let some = least 0 d p.0 in omega (arith, some, each_nests (d - 1) k xs q.1)
  value_nests d empty_map h = let some = least 0 d h in omega (arith, some)
  value_nests d (map k v ps) h = let p = and_parts (nat_lt 0 d) _ h in let q = and_parts (may_be_map k v (count_pairs ps)) _ p.1 in let some = least 0 d p.0 in omega (arith, some, pairs_nest_so (d - 1) k v ps q.1)
  value_nests d (struct fs) h = let p = and_parts (nat_lt 0 d) _ h in let some = least 0 d p.0 in omega (arith, some, fields_nest_so (d - 1) fs p.1)

  each_nests : (d k : ℕ) (xs : Nodes) → each_has_shape d k xs ≡ true → nodes_nest xs ≤ d
  each_nests d k no_nodes h = omega arith
  each_nests d k (node x xs) h =
      let p = and_parts (is_of_type k x && has_shape d x) (each_has_shape d k xs) h in
      let q = and_parts (is_of_type k x) (has_shape d x) p.0 in
      omega (arith, value_nests d x q.1, each_nests d k xs p.1)

  pairs_nest_so : (d k v : ℕ) (ps : Pairs) → pairs_have_shape d k v ps ≡ true → pairs_nest ps ≤ d
  pairs_nest_so d k v no_pairs h = omega arith
  pairs_nest_so d k v (pair x y ps) h =
      let p = and_parts ((is_of_type k x && has_shape d x) && (is_of_type v y && has_shape d y)) (pairs_have_shape d k v ps) h in
      let q = and_parts (is_of_type k x && has_shape d x) (is_of_type v y && has_shape d y) p.0 in
      let r = and_parts (is_of_type k x) (has_shape d x) q.0 in
      let s = and_parts (is_of_type v y) (has_shape d y) q.1 in
      omega (arith, value_nests d x r.1, value_nests d y s.1, pairs_nest_so d k v ps p.1)

  fields_nest_so : (d : ℕ) (fs : Fields) → fields_have_shape d fs ≡ true → fields_nest fs ≤ d
  fields_nest_so d no_fields h = omega arith
  fields_nest_so d (field id x fs) h =
      let p = and_parts (is_member x && has_shape d x) (fields_have_shape d fs) h in
      let q = and_parts (is_member x) (has_shape d x) p.0 in
      omega (arith, value_nests d x q.1, fields_nest_so d fs p.1)

pub shapes_nest : ShapesNest
shapes_nest deep fs h = fields_nest_so deep fs h
