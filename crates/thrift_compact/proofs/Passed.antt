-- What has bytes passes the test.
use Rattle.std.proofs.Common.{ℕ, ◌≡◌, ◌-◌, ◌^◌, ◌<◌, ◌≤◌, Bool, true, false, ◌&&◌, ◌||◌, nat_lt, List, length, inl, inr, refl, sym, ap, ◌∙◌, arith, lt-ltb as less}
use Rattle.std.specs.Prelude.{ℤ, pos, negsuc, ◌==◌, FitsSigned, IsTrue, ◌↔◌}
use Rattle.std.specs.Int.{w8, w16, w32, w64, cast_signed}
use Rattle.std.proofs.lemmas.Bool.{cases_lt, and_from as both, or_left as either, or_right as other, false_from_ne_true as not_true}
use Rattle.std.proofs.lemmas.Bool.Decides.{nat_tests, Decides-eqb}
use Rattle.std.proofs.lemmas.List.{length-take-le}
use Rattle.lists.proofs.Numbers.{eq_from_same as same}
use Rattle.lists.proofs.Booleans.{and_true}
use Rattle.bits.specs.Varint.{zigzag_of}
use Rattle.thrift_compact.specs.declared.tree.Node.{Node as CodeNode}
use Rattle.thrift_compact.specs.View.{views, pair_views}
use Rattle.thrift_compact.proofs.Writes.{count_views, count_pair_views}
use Rattle.thrift_compact.specs.Tree.{Node, yes, no as never, flag, i8, i16, i32, i64, double, binary, list, set, empty_map, map, struct, Nodes, no_nodes, node, Pairs, no_pairs, pair, Fields, no_fields, field, nest, nodes_nest, pairs_nest, fields_nest, count, count_pairs}
use Rattle.thrift_compact.specs.Compact.{kind, IsDouble, IsListHead, IsElement, IsValue, AreElements, ArePairs, AreFields}
use Rattle.thrift_compact.specs.inner.Writable.{has_bits, is_size, is_field, is_list, is_map, can_write, can_write_each, can_write_pairs, can_write_fields}
use Rattle.thrift_compact.specs.Shapes.{is_of_type}

-- ---- numbers and sizes

pub of_bits : (bits : ℕ) (z : ℤ) → zigzag_of z < 2 ^ bits → has_bits bits z ≡ true
unfolding has_bits
of_bits bits z h = less (zigzag_of z) (2 ^ bits) h

pub of_size : (n : ℕ) → n < 2 ^ 64 → is_size n ≡ true
unfolding is_size
of_size n h = less n (2 ^ 64) h

short_place : (z : ℤ) → FitsSigned w16 z → nat_lt (zigzag_of z) (2 ^ 16) ≡ true
short_place (pos n) h = less (zigzag_of (pos n)) (2 ^ 16) (omega (arith, h.sfits))
short_place (negsuc n) h = less (zigzag_of (negsuc n)) (2 ^ 16) (omega (arith, h.sfits))

pub short_bits : (z : ℤ) → FitsSigned w16 z → has_bits 16 z ≡ true
unfolding has_bits
short_bits z h = short_place z h

pub int_bits : (z : ℤ) → FitsSigned w32 z → has_bits 32 z ≡ true
int_bits (pos n) h = of_bits 32 (pos n) (omega (arith, h.sfits))
int_bits (negsuc n) h = of_bits 32 (negsuc n) (omega (arith, h.sfits))

pub byte_bits : (z : ℤ) → FitsSigned w8 z → has_bits 8 z ≡ true
byte_bits (pos n) h = of_bits 8 (pos n) (omega (arith, h.sfits))
byte_bits (negsuc n) h = of_bits 8 (negsuc n) (omega (arith, h.sfits))

pub long_bits : (z : ℤ) → FitsSigned w64 z → has_bits 64 z ≡ true
long_bits (pos n) h = of_bits 64 (pos n) (omega (arith, h.sfits))
long_bits (negsuc n) h = of_bits 64 (negsuc n) (omega (arith, h.sfits))

-- the signed number of a byte
signed_byte : (n : ℕ) → zigzag_of (cast_signed w8 n) < 2 ^ 8
signed_byte n = elim (cases_lt n 128) [
  | inl low ↦ let e : nat_lt n 128 ≡ true = less n 128 low in rw e (omega (arith, low))
  | inr high ↦ let e : nat_lt n 128 ≡ false = grind (arith, nat_tests) in rw e (omega (arith, high))
]

eight : (bytes text : List ℕ) (u : ℕ) → IsDouble bytes text u → length text ≡ 8
eight bytes text u p = ap length (sym p.is) ∙ length-take-le 8 bytes p.within

-- ---- types and headers

element : (k : ℕ) (x : Node) → IsElement k x → is_of_type k x ≡ true
element k yes h = absurd h
element k never h = absurd h
element k (flag b) (inl h) = either (k == 1) (k == 2) (same k 1 h)
element k (flag b) (inr h) = other (k == 1) (k == 2) (same k 2 h)
element k (i8 z) h = same k 3 h
element k (i16 z) h = same k 4 h
element k (i32 z) h = same k 5 h
element k (i64 z) h = same k 6 h
element k (double t) h = same k 7 h
element k (binary t) h = same k 8 h
element k (list m xs) h = same k 9 h
element k (set m xs) h = same k 10 h
element k empty_map h = same k 11 h
element k (map m v ps) h = same k 11 h
element k (struct fs) h = same k 12 h

of_field : (id : ℤ) (x : Node) → kind x < 16 → FitsSigned w16 id → is_field id x ≡ true
unfolding is_field
of_field id x low fits = both (nat_lt (kind x) 16) (nat_lt (zigzag_of id) (2 ^ 16)) (less (kind x) 16 low) (short_place id fits)

pub of_list : (k n : ℕ) → k < 16 → n < 2 ^ 64 → is_list k n ≡ true
unfolding is_list
of_list k n code small = both (nat_lt k 16) (nat_lt n (2 ^ 64)) (less k 16 code) (less n (2 ^ 64) small)

list_size : (bytes : List ℕ) (k n u : ℕ) → IsListHead bytes k n u → n < 2 ^ 64
list_size bytes k n u (code, inl few) = let le = few.0 in omega (arith, le)
list_size bytes k n u (code, inr long) = long.is.fits

pub of_map : (k v n : ℕ) → k < 16 → v < 16 → 1 ≤ n → n < 2 ^ 64 → is_map k v n ≡ true
unfolding is_map
of_map k v n p q r s =
    both (nat_lt k 16) (nat_lt v 16 && (nat_lt 0 n && nat_lt n (2 ^ 64))) (less k 16 p)
    (both (nat_lt v 16) (nat_lt 0 n && nat_lt n (2 ^ 64)) (less v 16 q) (both (nat_lt 0 n) (nat_lt n (2 ^ 64)) (less 0 n (omega (arith, r))) (less n (2 ^ 64) s)))

-- ---- values

mutual
  value_passes : (d : ℕ) (x : Node) (bytes : List ℕ) (u : ℕ) → IsValue x bytes u → nest x ≤ d → can_write d x ≡ true
  value_passes d yes bytes u h n = refl
  value_passes d never bytes u h n = refl
  value_passes d (flag b) bytes u h n = refl
  value_passes d (i8 z) bytes u h n = of_bits 8 z (rw h.is (signed_byte h.number))
  value_passes d (i16 z) bytes u h n = short_bits z h.1
  value_passes d (i32 z) bytes u h n = int_bits z h.1
  value_passes d (i64 z) bytes u h n = of_bits 64 z h.fits
  value_passes d (double t) bytes u h n = same (length t) 8 (eight bytes t u h)
  value_passes d (binary t) bytes u h n = of_size (length t) h.size.fits
  value_passes d (list k xs) bytes u h n =
      both (nat_lt 0 d) (is_list k (count xs) && can_write_each (d - 1) k xs) (less 0 d (omega (arith, n)))
      (both (is_list k (count xs)) (can_write_each (d - 1) k xs) (of_list k (count xs) h.2.0 (list_size bytes k (count xs) h.0 h.2)) (each_passes (d - 1) k xs _ h.1 h.3 (omega (arith, n))))
  value_passes d (set k xs) bytes u h n =
      both (nat_lt 0 d) (is_list k (count xs) && can_write_each (d - 1) k xs) (less 0 d (omega (arith, n)))
      (both (is_list k (count xs)) (can_write_each (d - 1) k xs) (of_list k (count xs) h.2.0 (list_size bytes k (count xs) h.0 h.2)) (each_passes (d - 1) k xs _ h.1 h.3 (omega (arith, n))))
  value_passes d empty_map bytes u h n = less 0 d (omega (arith, n))
  value_passes d (map k v ps) bytes u h n =
      both (nat_lt 0 d) (is_map k v (count_pairs ps) && can_write_pairs (d - 1) k v ps) (less 0 d (omega (arith, n)))
      (both (is_map k v (count_pairs ps)) (can_write_pairs (d - 1) k v ps) (of_map k v (count_pairs ps) h.2.key h.2.value h.2.some h.2.size.fits) (pairs_pass (d - 1) k v ps _ h.1 h.3 (omega (arith, n))))
  value_passes d (struct fs) bytes u h n =
      both (nat_lt 0 d) (can_write_fields (d - 1) fs) (less 0 d (omega (arith, n))) (fields_pass (d - 1) fs (pos 0) bytes u h (omega (arith, n)))

  each_passes : (d k : ℕ) (xs : Nodes) (bytes : List ℕ) (u : ℕ) → AreElements xs k bytes u → nodes_nest xs ≤ d → can_write_each d k xs ≡ true
  each_passes d k no_nodes bytes u h n = refl
  each_passes d k (node x xs) bytes u h n =
      both (is_of_type k x && can_write d x) (can_write_each d k xs) (both (is_of_type k x) (can_write d x) (element k x h.0) (value_passes d x bytes h.1.0 h.1.2 (omega (arith, n))))
      (each_passes d k xs _ h.1.1 h.1.3 (omega (arith, n)))

  pairs_pass : (d k v : ℕ) (ps : Pairs) (bytes : List ℕ) (u : ℕ) → ArePairs ps k v bytes u → pairs_nest ps ≤ d → can_write_pairs d k v ps ≡ true
  pairs_pass d k v no_pairs bytes u h n = refl
  pairs_pass d k v (pair x y ps) bytes u h n =
      let first = both (is_of_type k x) (is_of_type v y) (element k x h.0) (element v y h.1) in
      let second = both (is_of_type k x && is_of_type v y) (can_write d x) first (value_passes d x bytes h.2.0 h.2.3 (omega (arith, n))) in
      let third = both ((is_of_type k x && is_of_type v y) && can_write d x) (can_write d y) second (value_passes d y _ h.2.1 h.2.4 (omega (arith, n))) in
      both (((is_of_type k x && is_of_type v y) && can_write d x) && can_write d y) (can_write_pairs d k v ps) third (pairs_pass d k v ps _ h.2.2 h.2.5 (omega (arith, n)))

  pub fields_pass : (d : ℕ) (fs : Fields) (previous : ℤ) (bytes : List ℕ) (u : ℕ) → AreFields fs previous bytes u → fields_nest fs ≤ d → can_write_fields d fs ≡ true
  fields_pass d no_fields previous bytes u h n = refl
  fields_pass d (field id x fs) previous bytes u h n =
      both (is_field id x && can_write d x) (can_write_fields d fs) (both (is_field id x) (can_write d x) (of_field id x h.3.1 h.3.2) (value_passes d x _ h.1 h.4 (omega (arith, n))))
      (fields_pass d fs id _ h.2 h.5 (omega (arith, n)))

-- ---- the test of an element

one_of : (k : ℕ) → ((k == 1 || k == 2) ≡ true) → IsElement k (flag 0)
one_of k h = grind (arith, nat_tests)

pub is_element_of : (k : ℕ) (x : Node) → is_of_type k x ≡ true → IsElement k x
is_element_of k yes h = absurd (cc)
is_element_of k never h = absurd (cc)
is_element_of k (flag b) h = one_of k h
is_element_of k (i8 z) h = (Decides-eqb k 3).0 h
is_element_of k (i16 z) h = (Decides-eqb k 4).0 h
is_element_of k (i32 z) h = (Decides-eqb k 5).0 h
is_element_of k (i64 z) h = (Decides-eqb k 6).0 h
is_element_of k (double t) h = (Decides-eqb k 7).0 h
is_element_of k (binary t) h = (Decides-eqb k 8).0 h
is_element_of k (list m xs) h = (Decides-eqb k 9).0 h
is_element_of k (set m xs) h = (Decides-eqb k 10).0 h
is_element_of k empty_map h = (Decides-eqb k 11).0 h
is_element_of k (map m v ps) h = (Decides-eqb k 11).0 h
is_element_of k (struct fs) h = (Decides-eqb k 12).0 h

pub told : (b : Bool) (k : ℕ) (x : Node) → IsTrue b ↔ IsElement k x → b ≡ is_of_type k x
told true k x h = sym (element k x (h.0 refl))
told false k x h = sym (not_true (is_of_type k x) (λ t. absurd (let e = h.1 (is_element_of k x t) in cc)))

-- ---- the tests of fields and sizes

pub field_told : (id : ℤ) (x : Node) → FitsSigned w16 id → nat_lt (kind x) 16 ≡ is_field id x
unfolding is_field
field_told id x fits = sym (ap (λ b. nat_lt (kind x) 16 && b) (short_place id fits) ∙ and_true (nat_lt (kind x) 16))

pub list_told : (k : ℕ) (xs : List CodeNode) → length xs < 2 ^ 64 → nat_lt k 16 ≡ is_list k (count (views xs))
unfolding is_list
list_told k xs small =
    let e : nat_lt (count (views xs)) (2 ^ 64) ≡ true = less (count (views xs)) (2 ^ 64) (omega (arith, small, count_views xs)) in
    sym (ap (λ b. nat_lt k 16 && b) e ∙ and_true (nat_lt k 16))

-- as many pairs as a varint can say
pub pairs_told : (ps : List (CodeNode × CodeNode)) → length ps < 2 ^ 64 → nat_lt (count_pairs (pair_views ps)) (2 ^ 64) ≡ true
pairs_told ps small = less (count_pairs (pair_views ps)) (2 ^ 64) (omega (arith, small, count_pair_views ps))
