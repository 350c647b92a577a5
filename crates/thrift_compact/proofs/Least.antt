-- No bytes of a struct are fewer than its shortest spelling takes.
use Rattle.std.proofs.Common.{◌≡◌, ℕ, ◌+◌, ◌≤◌, List, [], ◌++◌, length, drop, arith, inl, inr}
use Rattle.std.specs.Prelude.{ℤ, pos, ◌-ℤ◌, nat_le, true}
use Rattle.std.proofs.lemmas.List.{length-append}
use Rattle.std.proofs.lemmas.Bool.Decides.{nat_tests}
use Rattle.std.proofs.lemmas.Int.{ints}
use Rattle.lists.proofs.Numbers.{if_at_most}
use Rattle.bits.proofs.Sevens.{powers_of_128 as powers}
use Rattle.bits.specs.Codec.{Appends}
use Rattle.bits.specs.Varint.{IsUleb, zigzag_of}
use Rattle.bits.proofs.Varints.{groups_below}
use Rattle.thrift_compact.specs.Tree.{Node, yes, no, flag, i8, i16, i32, i64, double, binary, list, set, empty_map, map, struct, Nodes, no_nodes, node, Pairs, no_pairs, pair, Fields, no_fields, field, count, count_pairs}
use Rattle.thrift_compact.specs.Compact.{IsThrift, IsListHead, IsFieldHead, IsValue, AreElements, ArePairs, AreFields, kind}
use Rattle.thrift_compact.specs.Length.{size_varint, size_length, size_i16, size_list_head, size_field_head, is_step, size_value, size_elements, size_pairs, size_fields, size_struct, NoSpellingIsShorter}
use Rattle.thrift_compact.proofs.Sizes.{size_below, if_true}

uleb_least : (k : ℕ) (bytes : List ℕ) (n u : ℕ) → IsUleb bytes n u → size_varint k n ≤ u
uleb_least k bytes n u p =
    let low = groups_below bytes u p.within in
    size_below k n u p.begins (rw (powers u, p.number) low)

list_head_least : (bytes : List ℕ) (k n u : ℕ) → IsListHead bytes k n u → size_list_head n ≤ u
list_head_least bytes k n u (small, inl (few, byte)) =
    let test : nat_le n 14 ≡ true = grind (arith, nat_tests) in
    rw (if_true (nat_le n 14) 1 (1 + size_length n) test) (omega (arith, byte.one))
list_head_least bytes k n u (small, inr long) =
    let size = uleb_least 10 (drop 1 bytes) n long.rest long.is in
    let total = long.total in
    if_at_most (nat_le n 14) 1 (1 + size_length n) u (omega arith) (omega arith)

a_step : (step : ℕ) → 1 ≤ step → step ≤ 15 → is_step (pos step) ≡ true
a_step step low high = grind (arith, nat_tests)

field_head_least : (previous : ℤ) (bytes : List ℕ) (id : ℤ) (k u : ℕ) → IsFieldHead previous bytes id k u → size_field_head previous id ≤ u
field_head_least previous bytes id k u (_, _, _, inl short) =
    let away : id -ℤ previous ≡ pos short.step = omega (arith, ints, short.is) in
    let test : is_step (id -ℤ previous) ≡ true = rw away (a_step short.step short.low short.high) in
    rw (if_true (is_step (id -ℤ previous)) 1 (1 + size_i16 id) test) (omega (arith, short.byte.one))
field_head_least previous bytes id k u (_, _, _, inr long) =
    let size = uleb_least 3 (drop 1 bytes) (zigzag_of id) long.rest long.is in
    let total = long.total in
    if_at_most (is_step (id -ℤ previous)) 1 (1 + size_i16 id) u (omega arith) (omega arith)

mutual
  value_least : (x : Node) (bytes : List ℕ) (u : ℕ) → IsValue x bytes u → size_value x ≤ u
  value_least yes bytes u p = omega (arith, p)
  value_least no bytes u p = omega (arith, p)
  value_least (flag b) bytes u p = omega (arith, p.one)
  value_least (i8 z) bytes u p = omega (arith, p.byte.one)
  value_least (i16 z) bytes u p = uleb_least 3 bytes (zigzag_of z) u p.0
  value_least (i32 z) bytes u p = uleb_least 5 bytes (zigzag_of z) u p.0
  value_least (i64 z) bytes u p = uleb_least 10 bytes (zigzag_of z) u p
  value_least (double text) bytes u p = omega (arith, p.total)
  value_least (binary text) bytes u p = omega (arith, uleb_least 10 bytes (length text) p.head p.size, p.total)
  value_least (list k xs) bytes u p = omega (arith, list_head_least bytes k (count xs) p.0 p.2, elements_least xs k (drop p.0 bytes) p.1 p.3, p.4)
  value_least (set k xs) bytes u p = omega (arith, list_head_least bytes k (count xs) p.0 p.2, elements_least xs k (drop p.0 bytes) p.1 p.3, p.4)
  value_least empty_map bytes u p = p.begins
  value_least (map k v ps) bytes u p = omega (arith, uleb_least 10 bytes (count_pairs ps) p.2.head p.2.size, p.2.total, pairs_least ps k v (drop p.0 bytes) p.1 p.3, p.4)
  value_least (struct fs) bytes u p = fields_least fs (pos 0) bytes u p

  elements_least : (xs : Nodes) (k : ℕ) (bytes : List ℕ) (u : ℕ) → AreElements xs k bytes u → size_elements xs ≤ u
  elements_least no_nodes k bytes u p = omega (arith, p)
  elements_least (node x xs) k bytes u p = omega (arith, value_least x bytes p.1.0 p.1.2, elements_least xs k (drop p.1.0 bytes) p.1.1 p.1.3, p.1.4)

  pairs_least : (ps : Pairs) (k v : ℕ) (bytes : List ℕ) (u : ℕ) → ArePairs ps k v bytes u → size_pairs ps ≤ u
  pairs_least no_pairs k v bytes u p = omega (arith, p)
  pairs_least (pair x y ps) k v bytes u p =
      omega (arith, value_least x bytes p.2.0 p.2.3, value_least y (drop p.2.0 bytes) p.2.1 p.2.4, pairs_least ps k v (drop (p.2.0 + p.2.1) bytes) p.2.2 p.2.5, p.2.6)

  fields_least : (fs : Fields) (previous : ℤ) (bytes : List ℕ) (u : ℕ) → AreFields fs previous bytes u → size_fields fs previous ≤ u
  fields_least no_fields previous bytes u p = omega (arith, p.one)
  fields_least (field id x fs) previous bytes u p =
      omega (arith, field_head_least previous bytes id (kind x) p.0 p.3, value_least x (drop p.0 bytes) p.1 p.4, fields_least fs id (drop (p.0 + p.1) bytes) p.2 p.5, p.6)

pub no_spelling_is_shorter : NoSpellingIsShorter
no_spelling_is_shorter bytes fields used p = fields_least fields (pos 0) bytes used p.spelled

-- what was written is as long as the shortest spelling
pub exact : (fs : Fields) (old new : List ℕ) → Appends (λ bytes used. IsThrift bytes fs used) (size_struct fs) old new → length new ≡ length old + size_struct fs
exact fs old new p =
    let low = no_spelling_is_shorter (p.text ++ []) fs (length p.text) (p.stands []) in
    let high = p.short in
    rw p.joined (omega (arith, low, high, length-append old p.text))
