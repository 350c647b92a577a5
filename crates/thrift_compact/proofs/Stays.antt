-- What stands at the front of bytes stands there whatever follows.
use Rattle.std.proofs.Common.{◌≡◌, ℕ, ◌+◌, ◌*◌, ◌<◌, ◌≤◌, List, ◌++◌, length, take, drop, sym, ap, subst, ◌∙◌, arith, inl, inr}
use Rattle.std.specs.Prelude.{ℤ, pos}
use Rattle.std.proofs.lemmas.List.{length-append, length-drop, get_or_append_left, take-append-le, drop-append-le}
use Rattle.bits.specs.Codec.{NothingStands}
use Rattle.bits.specs.Varint.{IsUleb, zigzag_of}
use Rattle.bits.proofs.Facts.{uleb_stays}
use Rattle.thrift_compact.specs.Tree.{Node, yes, no, flag, i8, i16, i32, i64, double, binary, list, set, empty_map, map, struct, Nodes, no_nodes, node, Pairs, no_pairs, pair, Fields, no_fields, field, count, count_pairs}
use Rattle.thrift_compact.specs.Compact.{IsByte, IsDouble, IsBinary, IsSigned, IsShort, IsLong, IsFieldHead, IsLongList, IsListHead, IsMapHead, IsValue, AreElements, ArePairs, AreFields, IsThrift, kind}
use Rattle.thrift_compact.specs.Values.{ValueOf}
use Rattle.thrift_compact.proofs.Parts.{one_signed, list_head_within, field_head_within}
use Rattle.thrift_compact.proofs.Within.{value_within, fields_within}
use Rattle.thrift_compact.proofs.One.{one_thrift}

-- what comes after the first n bytes, with more after it
pub dropped : (S : List ℕ → Type 0) (n : ℕ) (bytes more : List ℕ) → n ≤ length bytes → S (drop n bytes ++ more) → S (drop n (bytes ++ more))
dropped S n bytes more le s = subst S (sym (drop-append-le n bytes more le)) s

-- and the other way round
pub in_rest : (S : List ℕ → Type 0) (n : ℕ) (bytes rest more : List ℕ) → rest ≡ drop n bytes → n ≤ length bytes → S (drop n (bytes ++ more)) → S (rest ++ more)
in_rest S n bytes rest more e le s = subst S (drop-append-le n bytes more le ∙ ap (λ b. b ++ more) (sym e)) s

pub nothing_after : {Y : Type 0} (Stands : List ℕ → Y → ℕ → Type 0) (n : ℕ) (bytes rest more : List ℕ) → rest ≡ drop n bytes → n ≤ length bytes → NothingStands (Stands (rest ++ more)) → NothingStands (Stands (drop n (bytes ++ more)))
nothing_after Stands n bytes rest more e le nothing y used s = nothing y used (in_rest (λ b. Stands b y used) n bytes rest more e le s)

-- ---- values that hold no others, and headers

pub byte_stays : (bytes more : List ℕ) (b u : ℕ) → IsByte bytes b u → IsByte (bytes ++ more) b u
byte_stays bytes more b u p = record {
  some = omega (arith, p.some, length-append bytes more);
  is = get_or_append_left bytes more 0 0 (omega (arith, p.some)) ∙ p.is;
  one = p.one;
}

double_stays : (bytes more text : List ℕ) (u : ℕ) → IsDouble bytes text u → IsDouble (bytes ++ more) text u
double_stays bytes more text u p = record {
  within = omega (arith, p.within, length-append bytes more);
  is = take-append-le 8 bytes more p.within ∙ p.is;
  total = p.total;
}

binary_stays : (bytes more text : List ℕ) (u : ℕ) → IsBinary bytes text u → IsBinary (bytes ++ more) text u
binary_stays bytes more text u p = record {
  head = p.head;
  size = uleb_stays bytes more (length text) p.head p.size;
  within = omega (arith, p.within, length-append bytes more);
  is =
      dropped (λ b. take (length text) b ≡ text) p.head bytes more p.size.within
      (take-append-le (length text) (drop p.head bytes) more (omega (arith, p.within, length-drop p.head bytes)) ∙ p.is);
  total = p.total;
}

long_list_stays : (bytes more : List ℕ) (k n u : ℕ) → IsLongList bytes k n u → IsLongList (bytes ++ more) k n u
long_list_stays bytes more k n u p = record {
  rest = p.rest;
  byte = byte_stays bytes more (240 + k) 1 p.byte;
  is = dropped (λ b. IsUleb b n p.rest) 1 bytes more p.byte.some (uleb_stays (drop 1 bytes) more n p.rest p.is);
  total = p.total;
}

pub list_head_stays : (bytes more : List ℕ) (k n u : ℕ) → IsListHead bytes k n u → IsListHead (bytes ++ more) k n u
list_head_stays bytes more k n u (low, inl p) = (low, inl (p.0, byte_stays bytes more (16 * n + k) u p.1))
list_head_stays bytes more k n u (low, inr p) = (low, inr (long_list_stays bytes more k n u p))

pub map_head_stays : (bytes more : List ℕ) (k v n u : ℕ) → IsMapHead bytes k v n u → IsMapHead (bytes ++ more) k v n u
map_head_stays bytes more k v n u p = record {
  head = p.head;
  size = uleb_stays bytes more n p.head p.size;
  some = p.some;
  key = p.key;
  value = p.value;
  byte = dropped (λ b. IsByte b (16 * k + v) 1) p.head bytes more p.size.within (byte_stays (drop p.head bytes) more (16 * k + v) 1 p.byte);
  total = p.total;
}

short_stays : (previous : ℤ) (bytes more : List ℕ) (id : ℤ) (k u : ℕ) → IsShort previous bytes id k u → IsShort previous (bytes ++ more) id k u
short_stays previous bytes more id k u p = record { step = p.step; low = p.low; high = p.high; byte = byte_stays bytes more (16 * p.step + k) u p.byte; is = p.is }

long_stays : (bytes more : List ℕ) (id : ℤ) (k u : ℕ) → IsLong bytes id k u → IsLong (bytes ++ more) id k u
long_stays bytes more id k u p = record {
  rest = p.rest;
  byte = byte_stays bytes more k 1 p.byte;
  is = dropped (λ b. IsSigned b id p.rest) 1 bytes more p.byte.some (uleb_stays (drop 1 bytes) more (zigzag_of id) p.rest p.is);
  total = p.total;
}

pub field_head_stays : (previous : ℤ) (bytes more : List ℕ) (id : ℤ) (k u : ℕ) → IsFieldHead previous bytes id k u → IsFieldHead previous (bytes ++ more) id k u
field_head_stays previous bytes more id k u (low, high, fits, inl p) = (low, high, fits, inl (short_stays previous bytes more id k u p))
field_head_stays previous bytes more id k u (low, high, fits, inr p) = (low, high, fits, inr (long_stays bytes more id k u p))

-- the number there is the same whatever follows
pub same_signed : (bytes more : List ℕ) (y z : ℤ) (u v : ℕ) → IsSigned bytes z u → IsSigned (bytes ++ more) y v → y ≡ z
same_signed bytes more y z u v p q = (one_signed (bytes ++ more) y z v u q (uleb_stays bytes more (zigzag_of z) u p)).0

-- ---- values

mutual
  pub value_stays : (x : Node) (bytes more : List ℕ) (u : ℕ) → IsValue x bytes u → IsValue x (bytes ++ more) u
  value_stays yes bytes more u p = p
  value_stays no bytes more u p = p
  value_stays (flag b) bytes more u p = byte_stays bytes more b u p
  value_stays (i8 z) bytes more u p = record { number = p.number; byte = byte_stays bytes more p.number u p.byte; is = p.is }
  value_stays (i16 z) bytes more u p = (uleb_stays bytes more (zigzag_of z) u p.0, p.1)
  value_stays (i32 z) bytes more u p = (uleb_stays bytes more (zigzag_of z) u p.0, p.1)
  value_stays (i64 z) bytes more u p = uleb_stays bytes more (zigzag_of z) u p
  value_stays (double text) bytes more u p = double_stays bytes more text u p
  value_stays (binary text) bytes more u p = binary_stays bytes more text u p
  value_stays (list k xs) bytes more u p =
      let h = list_head_within bytes k (count xs) p.0 p.2 in
      (p.0, p.1, list_head_stays bytes more k (count xs) p.0 p.2, dropped (λ b. AreElements xs k b p.1) p.0 bytes more h.1 (elements_stay xs k (drop p.0 bytes) more p.1 p.3), p.4)
  value_stays (set k xs) bytes more u p =
      let h = list_head_within bytes k (count xs) p.0 p.2 in
      (p.0, p.1, list_head_stays bytes more k (count xs) p.0 p.2, dropped (λ b. AreElements xs k b p.1) p.0 bytes more h.1 (elements_stay xs k (drop p.0 bytes) more p.1 p.3), p.4)
  value_stays empty_map bytes more u p = uleb_stays bytes more 0 u p
  value_stays (map k v ps) bytes more u p =
      let within : p.0 ≤ length bytes = omega (arith, p.2.total, p.2.byte.some, length-drop p.2.head bytes) in
      (p.0, p.1, map_head_stays bytes more k v (count_pairs ps) p.0 p.2, dropped (λ b. ArePairs ps k v b p.1) p.0 bytes more within (pairs_stay ps k v (drop p.0 bytes) more p.1 p.3), p.4)
  value_stays (struct fs) bytes more u p = fields_stay fs (pos 0) bytes more u p

  elements_stay : (xs : Nodes) (k : ℕ) (bytes more : List ℕ) (u : ℕ) → AreElements xs k bytes u → AreElements xs k (bytes ++ more) u
  elements_stay no_nodes k bytes more u p = p
  elements_stay (node x xs) k bytes more u p =
      let first = value_within x bytes p.1.0 p.1.2 in
      (p.0, (p.1.0, p.1.1, value_stays x bytes more p.1.0 p.1.2, dropped (λ b. AreElements xs k b p.1.1) p.1.0 bytes more first (elements_stay xs k (drop p.1.0 bytes) more p.1.1 p.1.3), p.1.4))

  pairs_stay : (ps : Pairs) (k v : ℕ) (bytes more : List ℕ) (u : ℕ) → ArePairs ps k v bytes u → ArePairs ps k v (bytes ++ more) u
  pairs_stay no_pairs k v bytes more u p = p
  pairs_stay (pair x y ps) k v bytes more u (a, b, (s, t, r, first, second, rest, total)) =
      let key = value_within x bytes s first in
      let both : s + t ≤ length bytes = omega (arith, key, value_within y (drop s bytes) t second, length-drop s bytes) in
      (a, b, (s, t, r, value_stays x bytes more s first, dropped (λ b. IsValue y b t) s bytes more key (value_stays y (drop s bytes) more t second), dropped (λ b. ArePairs ps k v b r) (s + t) bytes more both (pairs_stay ps k v (drop (s + t) bytes) more r rest), total))

  fields_stay : (fs : Fields) (previous : ℤ) (bytes more : List ℕ) (u : ℕ) → AreFields fs previous bytes u → AreFields fs previous (bytes ++ more) u
  fields_stay no_fields previous bytes more u p = byte_stays bytes more 0 u p
  fields_stay (field id x fs) previous bytes more u (h, v, w, head, value, rest, total) =
      let front = field_head_within previous bytes id (kind x) h head in
      let both : h + v ≤ length bytes = omega (arith, front.1, value_within x (drop h bytes) v value, length-drop h bytes) in
      (h, v, w, field_head_stays previous bytes more id (kind x) h head, dropped (λ b. IsValue x b v) h bytes more front.1 (value_stays x (drop h bytes) more v value), dropped (λ b. AreFields fs id b w) (h + v) bytes more both (fields_stay fs id (drop (h + v) bytes) more w rest), total)

-- what stands after the first `at` bytes
pub value_later : (x : Node) (at : ℕ) (bytes more : List ℕ) (u : ℕ) → at ≤ length bytes → IsValue x (drop at bytes) u → IsValue x (drop at (bytes ++ more)) u
value_later x at bytes more u le p = dropped (λ b. IsValue x b u) at bytes more le (value_stays x (drop at bytes) more u p)

pub field_head_later : (previous : ℤ) (at : ℕ) (bytes more : List ℕ) (id : ℤ) (k u : ℕ) → at ≤ length bytes → IsFieldHead previous (drop at bytes) id k u → IsFieldHead previous (drop at (bytes ++ more)) id k u
field_head_later previous at bytes more id k u le p = dropped (λ b. IsFieldHead previous b id k u) at bytes more le (field_head_stays previous (drop at bytes) more id k u p)

-- a value of a type
pub of_type_stays : (code left : ℕ) (bytes more : List ℕ) (x : Node) (used : ℕ) → ValueOf code left bytes x used → ValueOf code left (bytes ++ more) x used
of_type_stays code left bytes more x used p = (p.0, p.1, value_stays x bytes more used p.2)

-- a struct
pub thrift_stays : (bytes more : List ℕ) (fields : Fields) (used : ℕ) → IsThrift bytes fields used → IsThrift (bytes ++ more) fields used
thrift_stays bytes more fields used p = record { spelled = fields_stay fields (pos 0) bytes more used p.spelled; shallow = p.shallow }

-- where one is cut, none is there
pub none_where_cut : (bytes more : List ℕ) (fields : Fields) (used : ℕ) → IsThrift (bytes ++ more) fields used → length bytes < used → NothingStands (IsThrift bytes)
none_where_cut bytes more fields used p cut seen taken s =
    let same = (one_thrift (bytes ++ more) fields seen used taken p (thrift_stays bytes more seen taken s)).1 in
    omega (arith, cut, same, fields_within seen (pos 0) bytes taken s.spelled)
