-- What passes the test has a text, and nests no deeper.
use Rattle.std.proofs.Common.{ℕ, ◌≡◌, ◌+◌, ◌-◌, ◌^◌, ◌<◌, ◌≤◌, Bool, true, ◌&&◌, nat_lt, List, [], ◌++◌, length, drop, min, refl, ap, sym, subst, ◌∙◌, arith, ltb-true as below}
use Rattle.std.specs.Prelude.{ℤ, pos, negsuc, FitsSigned, IsTrue, ◌↔◌}
use Rattle.std.specs.Int.{w8, w16, w32}
use Rattle.std.proofs.lemmas.Bool.{and_parts}
use Rattle.std.proofs.lemmas.Bool.Decides.{Decides-eqb}
use Rattle.bits.specs.Varint.{zigzag_of}
use Rattle.thrift_compact.specs.Tree.{Node, yes, no as never, flag, i8, i16, i32, i64, double, binary, list, set, empty_map, map, struct, Nodes, no_nodes, node, Pairs, no_pairs, pair, Fields, no_fields, field, nest, nodes_nest, pairs_nest, fields_nest, count, count_pairs}
use Rattle.thrift_compact.specs.Compact.{kind, IsSigned, IsListHead, IsMapHead, IsFieldHead, IsValue, AreElements, ArePairs, AreFields}
use Rattle.thrift_compact.specs.Writable.{HasBytes}
use Rattle.thrift_compact.specs.inner.Writable.{has_bits, is_size, is_field, is_list, is_map, can_write, can_write_each, can_write_pairs, can_write_fields}
use Rattle.thrift_compact.specs.Shapes.{is_of_type}
use Rattle.thrift_compact.proofs.Texts.{HasText, then_text, as_text, no_text, byte_text, uleb_text, signed_byte_text, double_text, binary_text, list_head_text, map_head_text, field_head_text}
use Rattle.thrift_compact.proofs.Passed.{is_element_of, fields_pass}

bits_below : (bits : ℕ) (z : ℤ) → has_bits bits z ≡ true → zigzag_of z < 2 ^ bits
unfolding has_bits
bits_below bits z h = below (zigzag_of z) (2 ^ bits) h

size_below : (n : ℕ) → is_size n ≡ true → n < 2 ^ 64
unfolding is_size
size_below n h = below n (2 ^ 64) h

byte_fits : (z : ℤ) → zigzag_of z < 2 ^ 8 → FitsSigned w8 z
byte_fits (pos n) h = record { sfits = omega (arith, h) }
byte_fits (negsuc n) h = record { sfits = omega (arith, h) }

short_fits : (z : ℤ) → zigzag_of z < 2 ^ 16 → FitsSigned w16 z
short_fits (pos n) h = record { sfits = omega (arith, h) }
short_fits (negsuc n) h = record { sfits = omega (arith, h) }

int_fits : (z : ℤ) → zigzag_of z < 2 ^ 32 → FitsSigned w32 z
int_fits (pos n) h = record { sfits = omega (arith, h) }
int_fits (negsuc n) h = record { sfits = omega (arith, h) }

pub field_parts : (id : ℤ) (x : Node) → is_field id x ≡ true → (kind x < 16) × (zigzag_of id < 2 ^ 16)
unfolding is_field
field_parts id x h = let p = and_parts (nat_lt (kind x) 16) (nat_lt (zigzag_of id) (2 ^ 16)) h in (below (kind x) 16 p.0, below (zigzag_of id) (2 ^ 16) p.1)

pub list_parts : (k n : ℕ) → is_list k n ≡ true → (k < 16) × (n < 2 ^ 64)
unfolding is_list
list_parts k n h = let p = and_parts (nat_lt k 16) (nat_lt n (2 ^ 64)) h in (below k 16 p.0, below n (2 ^ 64) p.1)

pub map_parts : (k v n : ℕ) → is_map k v n ≡ true → (k < 16) × (v < 16) × (1 ≤ n) × (n < 2 ^ 64)
unfolding is_map
map_parts k v n h =
    let p = and_parts (nat_lt k 16) (nat_lt v 16 && (nat_lt 0 n && nat_lt n (2 ^ 64))) h in
    let q = and_parts (nat_lt v 16) (nat_lt 0 n && nat_lt n (2 ^ 64)) p.1 in
    let r = and_parts (nat_lt 0 n) (nat_lt n (2 ^ 64)) q.1 in
    (below k 16 p.0, below v 16 q.0, below 0 n r.0, below n (2 ^ 64) r.1)

some_kind : (x : Node) → 1 ≤ kind x
some_kind yes = omega arith
some_kind x = omega arith

-- ---- texts

-- a value, or elements, behind a header
behind_head : (Head Rest : List ℕ → ℕ → Type 0) → HasText Head → HasText Rest → HasText (λ bytes used. (u v : ℕ) × Head bytes u × Rest (drop u bytes) v × (used ≡ u + v))
behind_head Head Rest p q = then_text Head Rest (λ bytes used. (u v : ℕ) × Head bytes u × Rest (drop u bytes) v × (used ≡ u + v)) (λ bytes u v a b. (u, v, a, b, refl)) p q

mutual
  value_text : (d : ℕ) (x : Node) → can_write d x ≡ true → HasText (IsValue x)
  value_text d yes h = no_text (IsValue yes) (λ bytes. refl)
  value_text d never h = no_text (IsValue never) (λ bytes. refl)
  value_text d (flag b) h = byte_text b
  value_text d (i8 z) h = signed_byte_text z (byte_fits z (bits_below 8 z h))
  value_text d (i16 z) h = let lt = bits_below 16 z h in as_text (λ bytes used. IsSigned bytes z used) (IsValue (i16 z)) (λ bytes used p. (p, short_fits z lt)) (uleb_text (zigzag_of z) (omega (arith, lt)))
  value_text d (i32 z) h = let lt = bits_below 32 z h in as_text (λ bytes used. IsSigned bytes z used) (IsValue (i32 z)) (λ bytes used p. (p, int_fits z lt)) (uleb_text (zigzag_of z) (omega (arith, lt)))
  value_text d (i64 z) h = uleb_text (zigzag_of z) (bits_below 64 z h)
  value_text d (double text) h = double_text text ((Decides-eqb (length text) 8).0 h)
  value_text d (binary text) h = binary_text text (size_below (length text) h)
  value_text d (list k xs) h =
      let p = and_parts (nat_lt 0 d) _ h in
      let q = and_parts (is_list k (count xs)) _ p.1 in
      let fits = list_parts k (count xs) q.0 in
      behind_head (λ bytes used. IsListHead bytes k (count xs) used) (AreElements xs k) (list_head_text k (count xs) fits.0 fits.1) (each_text (d - 1) k xs q.1)
  value_text d (set k xs) h =
      let p = and_parts (nat_lt 0 d) _ h in
      let q = and_parts (is_list k (count xs)) _ p.1 in
      let fits = list_parts k (count xs) q.0 in
      behind_head (λ bytes used. IsListHead bytes k (count xs) used) (AreElements xs k) (list_head_text k (count xs) fits.0 fits.1) (each_text (d - 1) k xs q.1)
  value_text d empty_map h = uleb_text 0 (omega arith)
  value_text d (map k v ps) h =
      let p = and_parts (nat_lt 0 d) _ h in
      let q = and_parts (is_map k v (count_pairs ps)) _ p.1 in
      let fits = map_parts k v (count_pairs ps) q.0 in
      behind_head (λ bytes used. IsMapHead bytes k v (count_pairs ps) used) (ArePairs ps k v) (map_head_text k v (count_pairs ps) fits.0 fits.1 fits.2 fits.3) (pairs_text (d - 1) k v ps q.1)
  value_text d (struct fs) h = let p = and_parts (nat_lt 0 d) _ h in fields_text (d - 1) fs (pos 0) p.1

  each_text : (d k : ℕ) (xs : Nodes) → can_write_each d k xs ≡ true → HasText (AreElements xs k)
  each_text d k no_nodes h = no_text (AreElements no_nodes k) (λ bytes. refl)
  each_text d k (node x xs) h =
      let p = and_parts (is_of_type k x && can_write d x) (can_write_each d k xs) h in
      let q = and_parts (is_of_type k x) (can_write d x) p.0 in
      let is = is_element_of k x q.0 in
      then_text (IsValue x) (AreElements xs k) (AreElements (node x xs) k) (λ bytes u v a b. (is, (u, v, a, b, refl))) (value_text d x q.1) (each_text d k xs p.1)

  pairs_text : (d k v : ℕ) (ps : Pairs) → can_write_pairs d k v ps ≡ true → HasText (ArePairs ps k v)
  pairs_text d k v no_pairs h = no_text (ArePairs no_pairs k v) (λ bytes. refl)
  pairs_text d k v (pair x y ps) h =
      let p = and_parts (is_of_type k x && is_of_type v y && can_write d x && can_write d y) (can_write_pairs d k v ps) h in
      let q = and_parts (is_of_type k x && is_of_type v y && can_write d x) (can_write d y) p.0 in
      let r = and_parts (is_of_type k x && is_of_type v y) (can_write d x) q.0 in
      let s = and_parts (is_of_type k x) (is_of_type v y) r.0 in
      let key = is_element_of k x s.0 in
      let value = is_element_of v y s.1 in
      then_text (λ bytes used. (s t : ℕ) × IsValue x bytes s × IsValue y (drop s bytes) t × (used ≡ s + t)) (ArePairs ps k v) (ArePairs (pair x y ps) k v)
      (λ bytes m n first second. (key, value, (first.0, first.1, n, first.2, first.3, subst (λ (i : ℕ). ArePairs ps k v (drop i bytes) n) first.4 second, ap (λ (i : ℕ). i + n) first.4)))
      (behind_head (IsValue x) (IsValue y) (value_text d x r.1) (value_text d y q.1)) (pairs_text d k v ps p.1)

  fields_text : (d : ℕ) (fs : Fields) (previous : ℤ) → can_write_fields d fs ≡ true → HasText (AreFields fs previous)
  fields_text d no_fields previous h = byte_text 0
  fields_text d (field id x fs) previous h =
      let p = and_parts (is_field id x && can_write d x) (can_write_fields d fs) h in
      let q = and_parts (is_field id x) (can_write d x) p.0 in
      let r = field_parts id x q.0 in
      let lt = r.1 in
      then_text (λ bytes used. (s t : ℕ) × IsFieldHead previous bytes id (kind x) s × IsValue x (drop s bytes) t × (used ≡ s + t)) (AreFields fs id) (AreFields (field id x fs) previous)
      (λ bytes m n first second. (first.0, first.1, n, first.2, first.3, subst (λ (i : ℕ). AreFields fs id (drop i bytes) n) first.4 second, ap (λ (i : ℕ). i + n) first.4))
      (behind_head (λ bytes used. IsFieldHead previous bytes id (kind x) used) (IsValue x) (field_head_text previous id (kind x) (some_kind x) r.0 (short_fits id lt) (omega (arith, lt))) (value_text d x q.1))
      (fields_text d fs id p.1)

-- ---- depth

mutual
  nest_at : (d : ℕ) (x : Node) → can_write d x ≡ true → nest x ≤ d
  nest_at d (list k xs) h = let p = and_parts (nat_lt 0 d) _ h in let q = and_parts (is_list k (count xs)) _ p.1 in let a = below 0 d p.0 in let b = nest_each (d - 1) k xs q.1 in omega (arith, a, b)
  nest_at d (set k xs) h = let p = and_parts (nat_lt 0 d) _ h in let q = and_parts (is_list k (count xs)) _ p.1 in let a = below 0 d p.0 in let b = nest_each (d - 1) k xs q.1 in omega (arith, a, b)
  nest_at d empty_map h = let a = below 0 d h in omega (arith, a)
  nest_at d (map k v ps) h = let p = and_parts (nat_lt 0 d) _ h in let q = and_parts (is_map k v (count_pairs ps)) _ p.1 in let a = below 0 d p.0 in let b = nest_pairs (d - 1) k v ps q.1 in omega (arith, a, b)
  nest_at d (struct fs) h = let p = and_parts (nat_lt 0 d) _ h in let a = below 0 d p.0 in let b = nest_fields (d - 1) fs p.1 in omega (arith, a, b)
  nest_at d x h = omega arith

  nest_each : (d k : ℕ) (xs : Nodes) → can_write_each d k xs ≡ true → nodes_nest xs ≤ d
  nest_each d k no_nodes h = omega arith
  nest_each d k (node x xs) h =
      let p = and_parts (is_of_type k x && can_write d x) (can_write_each d k xs) h in
      let q = and_parts (is_of_type k x) (can_write d x) p.0 in
      let a = nest_at d x q.1 in
      let b = nest_each d k xs p.1 in
      omega (arith, a, b)

  nest_pairs : (d k v : ℕ) (ps : Pairs) → can_write_pairs d k v ps ≡ true → pairs_nest ps ≤ d
  nest_pairs d k v no_pairs h = omega arith
  nest_pairs d k v (pair x y ps) h =
      let p = and_parts (is_of_type k x && is_of_type v y && can_write d x && can_write d y) (can_write_pairs d k v ps) h in
      let q = and_parts (is_of_type k x && is_of_type v y && can_write d x) (can_write d y) p.0 in
      let r = and_parts (is_of_type k x && is_of_type v y) (can_write d x) q.0 in
      let a = nest_at d x r.1 in
      let b = nest_at d y q.1 in
      let c = nest_pairs d k v ps p.1 in
      omega (arith, a, b, c)

  nest_fields : (d : ℕ) (fs : Fields) → can_write_fields d fs ≡ true → fields_nest fs ≤ d
  nest_fields d no_fields h = omega arith
  nest_fields d (field id x fs) h =
      let p = and_parts (is_field id x && can_write d x) (can_write_fields d fs) h in
      let q = and_parts (is_field id x) (can_write d x) p.0 in
      let a = nest_at d x q.1 in
      let b = nest_fields d fs p.1 in
      omega (arith, a, b)

-- a struct passes the test just where it has bytes
pub tells : (b : Bool) (d e : ℕ) (fs : Fields) → b ≡ can_write_fields e fs → e ≡ min d 32 → IsTrue b ↔ (fields_nest fs ≤ d) × HasBytes fs
tells b d e fs tested is = (
  λ h.
      let passed : can_write_fields e fs ≡ true = sym tested ∙ h in
      let n = nest_fields e fs passed in
      let t = fields_text e fs (pos 0) passed in
      (omega (arith, n, is), (t.text ++ [], length t.text, record { spelled = t.stands []; shallow = omega (arith, n, is) })),
  λ h. let n = h.0 in let s = h.1.2.shallow in tested ∙ fields_pass e fs (pos 0) h.1.0 h.1.1 h.1.2.spelled (omega (arith, n, s, is)),
)
