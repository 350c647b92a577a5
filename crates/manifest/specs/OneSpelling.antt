-- Bytes are spelled as fields are in one way: there is at most one proof of it.
use Rattle.std.proofs.Common.{◌≡◌, ◌⊎◌, ℕ, ◌+◌, ◌*◌, ◌<◌, ◌≤◌, List, [], ◌++◌, length, take, drop, refl, sym, ap, subst, ◌∙◌, arith, inl, inr}
use Rattle.std.specs.Prelude.{ℤ, pos, ◌+ℤ◌, ◌^◌, FitsSigned}
use Rattle.std.specs.Int.{w8, w16, w32, cast_signed}
use Rattle.std.specs.Coded.{Coded-set, coded_ℕ, coded_ℤ, coded_list, ×_prop, le_prop}
use Rattle.std.proofs.Props.{props}
use mathlib.Core.HLevel.{Σ_prop_path, Π_prop, ⊥_prop, ×₃_prop}
use Rattle.bits.specs.Varint.{IsUleb, zigzag_of, groups}
use Rattle.bits.proofs.Facts.{one_uleb}
use Rattle.thrift_compact.specs.Tree.{Node, yes, no, flag, i8, i16, i32, i64, double, binary, list, set, empty_map, map, struct, Nodes, no_nodes, node, Pairs, no_pairs, pair, Fields, no_fields, field, fields_nest, count, count_pairs}
use Rattle.thrift_compact.specs.Compact.{IsByte, IsSignedByte, IsDouble, IsBinary, IsSigned, IsShort, IsLong, IsFieldHead, IsElement, IsLongList, IsListHead, IsMapHead, IsValue, AreElements, ArePairs, AreFields, kind}
use Rattle.thrift_compact.specs.Length.{size_fields}
use Rattle.thrift_compact.specs.Piecewise.{AppendsRest}
use Rattle.thrift_compact.proofs.Parts.{one_byte, one_list_head, one_map_head, one_field_head}
use Rattle.thrift_compact.proofs.One.{Same, one_value, one_elements, one_pairs, one_fields}

-- numbers are equal in at most one way
nat : (m n : ℕ) → IsProp (m ≡ n)
nat m n = Coded-set coded_ℕ m n

-- two facts of which at most one is so
either : {A B : Type 0} → IsProp A → IsProp B → (A → B → ⊥) → IsProp (A ⊎ B)
either a b not (inl x) (inl y) = ap inl (a x y)
either a b not (inl x) (inr y) = absurd (not x y)
either a b not (inr x) (inl y) = absurd (not y x)
either a b not (inr x) (inr y) = ap inr (b x y)

-- a number of which there is one, and two of them, and three
sole : (A : ℕ → Type 0) → ((u : ℕ) → IsProp (A u)) → ((u v : ℕ) → A u → A v → u ≡ v) → IsProp ((u : ℕ) × A u)
sole A a one p q = Σ_prop_path a (one p.0 q.0 p.1 q.1)

-- four things that hold in at most one way each hold together in at most one way
pub four : {A B C D : Type 0} → IsProp A → IsProp B → IsProp C → IsProp D → IsProp (A × B × C × D)
four a b c d p q = λ i. (a p.0 q.0 i, b p.1 q.1 i, c p.2 q.2 i, d p.3 q.3 i)

six : {A B C D E F : Type 0} → IsProp A → IsProp B → IsProp C → IsProp D → IsProp E → IsProp F → IsProp (A × B × C × D × E × F)
six a b c d e f p q = λ i. (a p.0 q.0 i, b p.1 q.1 i, c p.2 q.2 i, d p.3 q.3 i, e p.4 q.4 i, f p.5 q.5 i)

-- two numbers, one after the other, of each of which there is one
pub two : (A : ℕ → Type 0) (B C : ℕ → ℕ → Type 0) → ((u : ℕ) → IsProp (A u)) → ((u v : ℕ) → IsProp (B u v)) → ((u v : ℕ) → IsProp (C u v)) → ((u v : ℕ) → A u → A v → u ≡ v) → ((t u v : ℕ) → B t u → B t v → u ≡ v)
    → IsProp ((u v : ℕ) × A u × B u v × C u v)
two A B C a b c one other p q = ap from (nested (p.0, (p.1, (p.2, p.3, p.4))) (q.0, (q.1, (q.2, q.3, q.4))))
  where
    from : (u : ℕ) × ((v : ℕ) × (A u × B u v × C u v)) → (u v : ℕ) × A u × B u v × C u v
    from s = (s.0, s.1.0, s.1.1.0, s.1.1.1, s.1.1.2)

    nested : IsProp ((u : ℕ) × ((v : ℕ) × (A u × B u v × C u v)))
    nested = sole (λ u. (v : ℕ) × (A u × B u v × C u v)) (λ u. sole (λ v. A u × B u v × C u v) (λ v. ×₃_prop (a u) (b u v) (c u v)) (λ v w s t. other u v w s.1 t.1)) (λ u v s t. one u v s.1.0 t.1.0)

three : (A : ℕ → Type 0) (B : ℕ → ℕ → Type 0) (C D : ℕ → ℕ → ℕ → Type 0) → ((u : ℕ) → IsProp (A u)) → ((u v : ℕ) → IsProp (B u v)) → ((u v w : ℕ) → IsProp (C u v w)) → ((u v w : ℕ) → IsProp (D u v w))
    → ((u v : ℕ) → A u → A v → u ≡ v) → ((t u v : ℕ) → B t u → B t v → u ≡ v) → ((s t u v : ℕ) → C s t u → C s t v → u ≡ v) → IsProp ((u v w : ℕ) × A u × B u v × C u v w × D u v w)
three A B C D a b c d one other last p q = ap from (nested (p.0, (p.1, (p.2, (p.3, p.4, p.5, p.6)))) (q.0, (q.1, (q.2, (q.3, q.4, q.5, q.6)))))
  where
    from : (u : ℕ) × ((v : ℕ) × ((w : ℕ) × (A u × B u v × C u v w × D u v w))) → (u v w : ℕ) × A u × B u v × C u v w × D u v w
    from s = (s.0, s.1.0, s.1.1.0, s.1.1.1.0, s.1.1.1.1, s.1.1.1.2, s.1.1.1.3)

    nested : IsProp ((u : ℕ) × ((v : ℕ) × ((w : ℕ) × (A u × B u v × C u v w × D u v w))))
    nested = sole (λ u. (v : ℕ) × ((w : ℕ) × (A u × B u v × C u v w × D u v w)))
        (λ u. sole (λ v. (w : ℕ) × (A u × B u v × C u v w × D u v w)) (λ v. sole (λ w. A u × B u v × C u v w × D u v w) (λ w. four (a u) (b u v) (c u v w) (d u v w)) (λ w x s t. last u v w x s.2 t.2)) (λ v w s t. other u v w s.1.1 t.1.1))
        (λ u v s t. one u v s.1.1.0 t.1.1.0)

-- ---- values that hold no others

Uleb-prop : (bytes : List ℕ) (n used : ℕ) → IsProp (IsUleb bytes n used)
Uleb-prop bytes n used p q = λ i. record {
  begins = le_prop p.begins q.begins i;
  within = le_prop p.within q.within i;
  ten = le_prop p.ten q.ten i;
  more = Π_prop (λ k. Π_prop (λ lt. le_prop)) p.more q.more i;
  last = le_prop p.last q.last i;
  number = nat n (groups (take used bytes)) p.number q.number i;
  fits = le_prop p.fits q.fits i;
}

Byte-prop : (bytes : List ℕ) (b used : ℕ) → IsProp (IsByte bytes b used)
Byte-prop bytes b used p q = λ i. record { some = le_prop p.some q.some i; is = nat _ b p.is q.is i; one = nat used 1 p.one q.one i }

SignedByte-prop : (bytes : List ℕ) (z : ℤ) (used : ℕ) → IsProp (IsSignedByte bytes z used)
SignedByte-prop bytes z used p q = ap from (flat (p.number, (p.byte, p.is)) (q.number, (q.byte, q.is)))
  where
    from : (n : ℕ) × (IsByte bytes n used × (z ≡ cast_signed w8 n)) → IsSignedByte bytes z used
    from s = record { number = s.0; byte = s.1.0; is = s.1.1 }

    flat : IsProp ((n : ℕ) × (IsByte bytes n used × (z ≡ cast_signed w8 n)))
    flat = sole (λ n. IsByte bytes n used × (z ≡ cast_signed w8 n)) (λ n. ×_prop (Byte-prop bytes n used) (Coded-set coded_ℤ z (cast_signed w8 n))) (λ m n s t. (one_byte bytes m n used used s.0 t.0).0)

bytes-set : (a b : List ℕ) → IsProp (a ≡ b)
bytes-set a b = Coded-set (coded_list coded_ℕ) a b

Double-prop : (bytes text : List ℕ) (used : ℕ) → IsProp (IsDouble bytes text used)
Double-prop bytes text used p q = λ i. record { within = le_prop p.within q.within i; is = bytes-set (take 8 bytes) text p.is q.is i; total = nat used 8 p.total q.total i }

abbrev BinaryRest : List ℕ → List ℕ → ℕ → ℕ → Type 0
BinaryRest bytes text used h = IsUleb bytes (length text) h × (h + length text ≤ length bytes) × (take (length text) (drop h bytes) ≡ text) × (used ≡ h + length text)

Binary-prop : (bytes text : List ℕ) (used : ℕ) → IsProp (IsBinary bytes text used)
Binary-prop bytes text used p q = ap from (flat (p.head, (p.size, p.within, p.is, p.total)) (q.head, (q.size, q.within, q.is, q.total)))
  where
    from : (h : ℕ) × BinaryRest bytes text used h → IsBinary bytes text used
    from s = record { head = s.0; size = s.1.0; within = s.1.1; is = s.1.2; total = s.1.3 }

    flat : IsProp ((h : ℕ) × BinaryRest bytes text used h)
    flat = sole (BinaryRest bytes text used) (λ h. four (Uleb-prop bytes (length text) h) le_prop (bytes-set (take (length text) (drop h bytes)) text) (nat used (h + length text)))
        (λ u v s t. (one_uleb bytes (length text) (length text) u v s.0 t.0).1)

FitsSigned-prop : (w : _) (z : ℤ) → IsProp (FitsSigned w z)
FitsSigned-prop w z = hlevel props

-- ---- heads

abbrev ShortRest : ℤ → List ℕ → ℤ → ℕ → ℕ → ℕ → Type 0
ShortRest previous bytes id k used s = (1 ≤ s) × (s ≤ 15) × IsByte bytes (16 * s + k) used × (id ≡ previous +ℤ pos s)

Short-prop : (previous : ℤ) (bytes : List ℕ) (id : ℤ) (k used : ℕ) → IsProp (IsShort previous bytes id k used)
Short-prop previous bytes id k used p q = ap from (flat (p.step, (p.low, p.high, p.byte, p.is)) (q.step, (q.low, q.high, q.byte, q.is)))
  where
    from : (s : ℕ) × ShortRest previous bytes id k used s → IsShort previous bytes id k used
    from s = record { step = s.0; low = s.1.0; high = s.1.1; byte = s.1.2; is = s.1.3 }

    flat : IsProp ((s : ℕ) × ShortRest previous bytes id k used s)
    flat = sole (ShortRest previous bytes id k used) (λ s. four le_prop le_prop (Byte-prop bytes (16 * s + k) used) (Coded-set coded_ℤ id (previous +ℤ pos s)))
        (λ u v s t. let o = (one_byte bytes (16 * u + k) (16 * v + k) used used s.2 t.2).0 in omega (arith, o))

abbrev LongRest : List ℕ → ℤ → ℕ → ℕ → ℕ → Type 0
LongRest bytes id k used r = IsByte bytes k 1 × IsSigned (drop 1 bytes) id r × (used ≡ 1 + r)

Long-prop : (bytes : List ℕ) (id : ℤ) (k used : ℕ) → IsProp (IsLong bytes id k used)
Long-prop bytes id k used p q = ap from (flat (p.rest, (p.byte, p.is, p.total)) (q.rest, (q.byte, q.is, q.total)))
  where
    from : (r : ℕ) × LongRest bytes id k used r → IsLong bytes id k used
    from s = record { rest = s.0; byte = s.1.0; is = s.1.1; total = s.1.2 }

    flat : IsProp ((r : ℕ) × LongRest bytes id k used r)
    flat = sole (LongRest bytes id k used) (λ r. ×₃_prop (Byte-prop bytes k 1) (Uleb-prop (drop 1 bytes) (zigzag_of id) r) (nat used (1 + r)))
        (λ u v s t. (one_uleb (drop 1 bytes) (zigzag_of id) (zigzag_of id) u v s.1 t.1).1)

FieldHead-prop : (previous : ℤ) (bytes : List ℕ) (id : ℤ) (k used : ℕ) → IsProp (IsFieldHead previous bytes id k used)
FieldHead-prop previous bytes id k used p q =
    four le_prop le_prop (FitsSigned-prop w16 id) (either (Short-prop previous bytes id k used) (Long-prop bytes id k used)
    (λ a b. omega (arith, (one_byte bytes (16 * a.step + k) k used 1 a.byte b.byte).0, a.low))) p q

abbrev LongListRest : List ℕ → ℕ → ℕ → ℕ → ℕ → Type 0
LongListRest bytes k n used r = IsByte bytes (240 + k) 1 × IsUleb (drop 1 bytes) n r × (used ≡ 1 + r)

LongList-prop : (bytes : List ℕ) (k n used : ℕ) → IsProp (IsLongList bytes k n used)
LongList-prop bytes k n used p q = ap from (flat (p.rest, (p.byte, p.is, p.total)) (q.rest, (q.byte, q.is, q.total)))
  where
    from : (r : ℕ) × LongListRest bytes k n used r → IsLongList bytes k n used
    from s = record { rest = s.0; byte = s.1.0; is = s.1.1; total = s.1.2 }

    flat : IsProp ((r : ℕ) × LongListRest bytes k n used r)
    flat = sole (LongListRest bytes k n used) (λ r. ×₃_prop (Byte-prop bytes (240 + k) 1) (Uleb-prop (drop 1 bytes) n r) (nat used (1 + r)))
        (λ u v s t. (one_uleb (drop 1 bytes) n n u v s.1 t.1).1)

ListHead-prop : (bytes : List ℕ) (k n used : ℕ) → IsProp (IsListHead bytes k n used)
ListHead-prop bytes k n used p q =
    let small = p.0 in
    ×_prop le_prop (either (×_prop le_prop (Byte-prop bytes (16 * n + k) used)) (LongList-prop bytes k n used)
    (λ a b. omega (arith, (one_byte bytes (16 * n + k) (240 + k) used 1 a.1 b.byte).0, a.0))) p q

abbrev MapHeadRest : List ℕ → ℕ → ℕ → ℕ → ℕ → ℕ → Type 0
MapHeadRest bytes k v n used h = IsUleb bytes n h × (1 ≤ n) × (k < 16) × (v < 16) × IsByte (drop h bytes) (16 * k + v) 1 × (used ≡ h + 1)

MapHead-prop : (bytes : List ℕ) (k v n used : ℕ) → IsProp (IsMapHead bytes k v n used)
MapHead-prop bytes k v n used p q = ap from (flat (p.head, (p.size, p.some, p.key, p.value, p.byte, p.total)) (q.head, (q.size, q.some, q.key, q.value, q.byte, q.total)))
  where
    from : (h : ℕ) × MapHeadRest bytes k v n used h → IsMapHead bytes k v n used
    from s = record { head = s.0; size = s.1.0; some = s.1.1; key = s.1.2; value = s.1.3; byte = s.1.4; total = s.1.5 }

    flat : IsProp ((h : ℕ) × MapHeadRest bytes k v n used h)
    flat = sole (MapHeadRest bytes k v n used) (λ h. six (Uleb-prop bytes n h) le_prop le_prop le_prop (Byte-prop (drop h bytes) (16 * k + v) 1) (nat used (h + 1)))
        (λ a b s t. (one_uleb bytes n n a b s.0 t.0).1)

Element-prop : (k : ℕ) (x : Node) → IsProp (IsElement k x)
Element-prop k yes = ⊥_prop
Element-prop k no = ⊥_prop
Element-prop k (flag b) = either (nat k 1) (nat k 2) (λ p q. let both : k ≡ 1 = p in omega (arith, both, q))
Element-prop k (i8 z) = nat k 3
Element-prop k (i16 z) = nat k 4
Element-prop k (i32 z) = nat k 5
Element-prop k (i64 z) = nat k 6
Element-prop k (double t) = nat k 7
Element-prop k (binary t) = nat k 8
Element-prop k (list l xs) = nat k 9
Element-prop k (set l xs) = nat k 10
Element-prop k empty_map = nat k 11
Element-prop k (map l v ps) = nat k 11
Element-prop k (struct fs) = nat k 12

-- ---- values

mutual
  unfolding Same

  pub Value-prop : (x : Node) (bytes : List ℕ) (used : ℕ) → IsProp (IsValue x bytes used)
  Value-prop yes bytes used = nat used 0
  Value-prop no bytes used = nat used 0
  Value-prop (flag b) bytes used = Byte-prop bytes b used
  Value-prop (i8 z) bytes used = SignedByte-prop bytes z used
  Value-prop (i16 z) bytes used = ×_prop (Uleb-prop bytes (zigzag_of z) used) (FitsSigned-prop w16 z)
  Value-prop (i32 z) bytes used = ×_prop (Uleb-prop bytes (zigzag_of z) used) (FitsSigned-prop w32 z)
  Value-prop (i64 z) bytes used = Uleb-prop bytes (zigzag_of z) used
  Value-prop (double text) bytes used = Double-prop bytes text used
  Value-prop (binary text) bytes used = Binary-prop bytes text used
  Value-prop (list k xs) bytes used =
      two (λ u. IsListHead bytes k (count xs) u) (λ u v. AreElements xs k (drop u bytes) v) (λ u v. used ≡ u + v) (λ u. ListHead-prop bytes k (count xs) u) (λ u v. Elements-prop xs k (drop u bytes) v) (λ u v. nat used (u + v))
      (λ u v p q. (one_list_head bytes k (count xs) u k (count xs) v p q).used) (λ t u v p q. (one_elements xs xs k (drop t bytes) u v refl p q).1)
  Value-prop (set k xs) bytes used =
      two (λ u. IsListHead bytes k (count xs) u) (λ u v. AreElements xs k (drop u bytes) v) (λ u v. used ≡ u + v) (λ u. ListHead-prop bytes k (count xs) u) (λ u v. Elements-prop xs k (drop u bytes) v) (λ u v. nat used (u + v))
      (λ u v p q. (one_list_head bytes k (count xs) u k (count xs) v p q).used) (λ t u v p q. (one_elements xs xs k (drop t bytes) u v refl p q).1)
  Value-prop empty_map bytes used = Uleb-prop bytes 0 used
  Value-prop (map k l ps) bytes used =
      two (λ u. IsMapHead bytes k l (count_pairs ps) u) (λ u v. ArePairs ps k l (drop u bytes) v) (λ u v. used ≡ u + v) (λ u. MapHead-prop bytes k l (count_pairs ps) u) (λ u v. Pairs-prop ps k l (drop u bytes) v) (λ u v. nat used (u + v))
      (λ u v p q. (one_map_head bytes k l (count_pairs ps) u k l (count_pairs ps) v p q).used) (λ t u v p q. (one_pairs ps ps k l (drop t bytes) u v refl p q).1)
  Value-prop (struct fs) bytes used = Fields-prop fs (pos 0) bytes used

  pub Elements-prop : (xs : Nodes) (k : ℕ) (bytes : List ℕ) (used : ℕ) → IsProp (AreElements xs k bytes used)
  Elements-prop no_nodes k bytes used = nat used 0
  Elements-prop (node x xs) k bytes used = ×_prop (Element-prop k x)
      (two (λ u. IsValue x bytes u) (λ u v. AreElements xs k (drop u bytes) v) (λ u v. used ≡ u + v) (λ u. Value-prop x bytes u) (λ u v. Elements-prop xs k (drop u bytes) v) (λ u v. nat used (u + v))
      (λ u v p q. (one_value x x bytes u v refl p q).1) (λ t u v p q. (one_elements xs xs k (drop t bytes) u v refl p q).1))

  pub Pairs-prop : (ps : Pairs) (k l : ℕ) (bytes : List ℕ) (used : ℕ) → IsProp (ArePairs ps k l bytes used)
  Pairs-prop no_pairs k l bytes used = nat used 0
  Pairs-prop (pair x y ps) k l bytes used = ×₃_prop (Element-prop k x) (Element-prop l y)
      (three (λ u. IsValue x bytes u) (λ u v. IsValue y (drop u bytes) v) (λ u v w. ArePairs ps k l (drop (u + v) bytes) w) (λ u v w. used ≡ u + v + w)
      (λ u. Value-prop x bytes u) (λ u v. Value-prop y (drop u bytes) v) (λ u v w. Pairs-prop ps k l (drop (u + v) bytes) w) (λ u v w. nat used (u + v + w))
      (λ u v p q. (one_value x x bytes u v refl p q).1) (λ t u v p q. (one_value y y (drop t bytes) u v refl p q).1) (λ s t u v p q. (one_pairs ps ps k l (drop (s + t) bytes) u v refl p q).1))

  pub Fields-prop : (fs : Fields) (previous : ℤ) (bytes : List ℕ) (used : ℕ) → IsProp (AreFields fs previous bytes used)
  Fields-prop no_fields previous bytes used = Byte-prop bytes 0 used
  Fields-prop (field id x fs) previous bytes used =
      three (λ u. IsFieldHead previous bytes id (kind x) u) (λ u v. IsValue x (drop u bytes) v) (λ u v w. AreFields fs id (drop (u + v) bytes) w) (λ u v w. used ≡ u + v + w)
      (λ u. FieldHead-prop previous bytes id (kind x) u) (λ u v. Value-prop x (drop u bytes) v) (λ u v w. Fields-prop fs id (drop (u + v) bytes) w) (λ u v w. nat used (u + v + w))
      (λ u v p q. (one_field_head previous bytes id id (kind x) u (kind x) v p q).used) (λ t u v p q. (one_value x x (drop t bytes) u v refl p q).1)
      (λ s t u v p q. (one_fields fs fs id (drop (s + t) bytes) u v p q).1)

-- ---- the rest of a struct

abbrev RestText : Fields → ℤ → List ℕ → List ℕ → Type 0
RestText fs previous new text = (new ≡ text) × ((more : List ℕ) → (fields_nest fs ≤ 32) × AreFields fs previous (text ++ more) (length text)) × (length text ≤ size_fields fs previous)

-- bytes are the rest of a struct in at most one way
pub Rest-prop : (fs : Fields) (previous : ℤ) (new : List ℕ) → IsProp (AppendsRest fs previous [] new)
Rest-prop fs previous new p q = ap from (flat (p.text, (p.joined, p.stands, p.short)) (q.text, (q.joined, q.stands, q.short)))
  where
    from : (text : List ℕ) × RestText fs previous new text → AppendsRest fs previous [] new
    from s = record { text = s.0; joined = s.1.0; stands = s.1.1; short = s.1.2 }

    flat : IsProp ((text : List ℕ) × RestText fs previous new text)
    flat s t = Σ_prop_path (λ (text : List ℕ). ×₃_prop (bytes-set new text) (Π_prop (λ more. ×_prop le_prop (Fields-prop fs previous (text ++ more) (length text)))) le_prop) (sym s.1.0 ∙ t.1.0)
