-- What stands in some bytes has a text that stands for it before any others.
use Rattle.std.proofs.Common.{◌≡◌, ◌⊎◌, ℕ, ◌+◌, ◌-◌, ◌*◌, ◌<◌, ◌≤◌, ℤ, pos, List, ◌++◌, length, take, drop, refl, sym, ap, subst, ◌∙◌, arith, inl, inr}
use Rattle.std.proofs.lemmas.List.{length-append, length-take-le, length-drop, take_at, take-take, get_or-take}
use Rattle.bits.specs.Varint.{IsUleb, zigzag_of}
use Rattle.bits.proofs.Facts.{uleb_stays}
use Rattle.thrift_compact.specs.Tree.{Node, yes, no, flag, i8, i16, i32, i64, double, binary, list, set, empty_map, map, struct, Nodes, no_nodes, node, Pairs, no_pairs, pair, Fields, no_fields, field, count, count_pairs}
use Rattle.thrift_compact.proofs.Texts.{HasText, then_text, as_text, no_text, byte_text}
use Rattle.thrift_compact.specs.Compact.{IsByte, IsSignedByte, IsDouble, IsBinary, IsSigned, kind, IsShort, IsLong, IsFieldHead, IsLongList, IsListHead, IsMapHead, IsValue, AreElements, ArePairs, AreFields}

all_taken : (u : ℕ) (bytes : List ℕ) → u ≤ length bytes → take u (take u bytes) ≡ take u bytes
all_taken u bytes le = take-take u u bytes (omega arith)

front_of_uleb : (bytes : List ℕ) (n u : ℕ) → IsUleb bytes n u → IsUleb (take u bytes) n u
front_of_uleb bytes n u p =
    let within = p.within in
    let size : length (take u bytes) ≡ u = length-take-le u bytes within in
    let begins = p.begins in
    record {
      begins = p.begins;
      within = omega (arith, size);
      ten = p.ten;
      more = λ k lt. rw (get_or-take u bytes k 0 (omega (arith, lt))) (p.more k lt);
      last = rw (get_or-take u bytes (u - 1) 0 (omega (arith, begins))) p.last;
      number = rw (all_taken u bytes within) p.number;
      fits = p.fits;
    }

pub uleb_text : (bytes : List ℕ) (n u : ℕ) → IsUleb bytes n u → HasText (λ b used. IsUleb b n used)
uleb_text bytes n u p =
    let within = p.within in
    let size : length (take u bytes) ≡ u = length-take-le u bytes within in
    record {
      text = take u bytes;
      stands = λ more. subst (λ (k : ℕ). IsUleb (take u bytes ++ more) n k) (sym size) (uleb_stays (take u bytes) more n u (front_of_uleb bytes n u p));
    }

-- a text as long as it must be
exact_text : (text : List ℕ) → HasText (λ bytes used. (length text ≤ length bytes) × (take (length text) bytes ≡ text) × (used ≡ length text))
exact_text text = record { text = text; stands = λ more. (omega (arith, length-append text more), take_at text more (length text) refl, refl) }

double_text : (bytes text : List ℕ) (u : ℕ) → IsDouble bytes text u → HasText (λ b used. IsDouble b text used)
double_text bytes text u p =
    let within = p.within in
    let size : length text ≡ 8 = subst (λ (t : List ℕ). length t ≡ 8) p.is (length-take-le 8 bytes within) in
    as_text (λ b used. (length text ≤ length b) × (take (length text) b ≡ text) × (used ≡ length text)) (λ b used. IsDouble b text used)
    (λ b used q. record { within = omega (arith, q.0, size); is = subst (λ (n : ℕ). take n b ≡ text) size q.1; total = q.2 ∙ size })
    (exact_text text)

pub binary_text : (text : List ℕ) → HasText (λ b used. IsUleb b (length text) used) → HasText (λ b used. IsBinary b text used)
binary_text text size =
    then_text (λ b used. IsUleb b (length text) used) (λ b used. (length text ≤ length b) × (take (length text) b ≡ text) × (used ≡ length text)) (λ b used. IsBinary b text used)
    (λ b u v first second. record {
      head = u;
      size = first;
      within = omega (arith, second.0, first.within, length-drop u b);
      is = second.1;
      total = ap (λ (n : ℕ). u + n) second.2;
    })
    size (exact_text text)

pub list_head_text : (k n : ℕ) → k < 16 → (n ≤ 14) ⊎ HasText (λ b used. IsUleb b n used) → HasText (λ b used. IsListHead b k n used)
list_head_text k n code (inl few) = as_text (λ b used. IsByte b (16 * n + k) used) (λ b used. IsListHead b k n used) (λ b used p. (code, inl (few, p))) (byte_text (16 * n + k))
list_head_text k n code (inr size) =
    then_text (λ b used. IsByte b (240 + k) used) (λ b used. IsUleb b n used) (λ b used. IsListHead b k n used)
    (λ b u v first second. (code, inr (long b u v first second)))
    (byte_text (240 + k)) size
  where
    long : (b : List ℕ) (u v : ℕ) → IsByte b (240 + k) u → IsUleb (drop u b) n v → IsLongList b k n (u + v)
    long b u v first second = record { rest = v; byte = subst (λ (m : ℕ). IsByte b (240 + k) m) first.one first; is = subst (λ (m : ℕ). IsUleb (drop m b) n v) first.one second; total = ap (λ (m : ℕ). m + v) first.one }

-- how the size of a list came to stand
pub size_of_head : (bytes : List ℕ) (k n u : ℕ) → IsListHead bytes k n u → (n ≤ 14) ⊎ HasText (λ b used. IsUleb b n used)
size_of_head bytes k n u p = go p.1
  where
    go : ((n ≤ 14) × IsByte bytes (16 * n + k) u) ⊎ IsLongList bytes k n u → (n ≤ 14) ⊎ HasText (λ b used. IsUleb b n used)
    go (inl a) = inl a.0
    go (inr a) = inr (uleb_text (drop 1 bytes) n a.rest a.is)

map_head_text : (bytes : List ℕ) (k v n u : ℕ) → IsMapHead bytes k v n u → HasText (λ b used. IsMapHead b k v n used)
map_head_text bytes k v n u p =
    let some = p.some in
    let key = p.key in
    let value = p.value in
    then_text (λ b used. IsUleb b n used) (λ b used. IsByte b (16 * k + v) used) (λ b used. IsMapHead b k v n used)
    (λ b s t first second. record { head = s; size = first; some = some; key = key; value = value; byte = subst (λ (m : ℕ). IsByte (drop s b) (16 * k + v) m) second.one second; total = ap (λ (m : ℕ). s + m) second.one })
    (uleb_text bytes n p.head p.size) (byte_text (16 * k + v))

field_head_text : (previous : ℤ) (bytes : List ℕ) (id : ℤ) (k u : ℕ) → IsFieldHead previous bytes id k u → HasText (λ b used. IsFieldHead previous b id k used)
field_head_text previous bytes id k u p = go p.3
  where
    go : IsShort previous bytes id k u ⊎ IsLong bytes id k u → HasText (λ b used. IsFieldHead previous b id k used)
    go (inl a) = as_text (λ b used. IsByte b (16 * a.step + k) used) (λ b used. IsFieldHead previous b id k used) (λ b used q. (p.0, p.1, p.2, inl (record { step = a.step; low = a.low; high = a.high; byte = q; is = a.is }))) (byte_text (16 * a.step + k))
    go (inr a) =
        then_text (λ b used. IsByte b k used) (λ b used. IsSigned b id used) (λ b used. IsFieldHead previous b id k used)
        (λ b s t first second. (p.0, p.1, p.2, inr (record { rest = t; byte = subst (λ (m : ℕ). IsByte b k m) first.one first; is = subst (λ (m : ℕ). IsSigned (drop m b) id t) first.one second; total = ap (λ (m : ℕ). m + t) first.one })))
        (byte_text k) (uleb_text (drop 1 bytes) (zigzag_of id) a.rest a.is)

signed_byte_text : (bytes : List ℕ) (z : ℤ) (u : ℕ) → IsSignedByte bytes z u → HasText (λ b used. IsSignedByte b z used)
signed_byte_text bytes z u p = as_text (λ b used. IsByte b p.number used) (λ b used. IsSignedByte b z used) (λ b used q. record { number = p.number; byte = q; is = p.is }) (byte_text p.number)

-- a field in front of others
pub field_then : (previous id : ℤ) (x : Node) (fs : Fields) → HasText (λ b used. IsFieldHead previous b id (kind x) used) → HasText (IsValue x) → HasText (AreFields fs id) → HasText (AreFields (field id x fs) previous)
field_then previous id x fs head value rest =
    then_text (λ b used. (s t : ℕ) × IsFieldHead previous b id (kind x) s × IsValue x (drop s b) t × (used ≡ s + t)) (AreFields fs id) (AreFields (field id x fs) previous)
    (λ b m r first second. (first.0, first.1, r, first.2, first.3, subst (λ (n : ℕ). AreFields fs id (drop n b) r) first.4 second, ap (λ (n : ℕ). n + r) first.4))
    (then_text (λ b used. IsFieldHead previous b id (kind x) used) (IsValue x) (λ b used. (s t : ℕ) × IsFieldHead previous b id (kind x) s × IsValue x (drop s b) t × (used ≡ s + t)) (λ b s t first second. (s, t, first, second, refl)) head value)
    rest

mutual
  pub value_text : (x : Node) (bytes : List ℕ) (u : ℕ) → IsValue x bytes u → HasText (IsValue x)
  value_text yes bytes u p = no_text (IsValue yes) (λ b. refl)
  value_text no bytes u p = no_text (IsValue no) (λ b. refl)
  value_text (flag n) bytes u p = byte_text n
  value_text (i8 z) bytes u p = signed_byte_text bytes z u p
  value_text (i16 z) bytes u p = as_text (λ b used. IsSigned b z used) (IsValue (i16 z)) (λ b used q. (q, p.1)) (uleb_text bytes (zigzag_of z) u p.0)
  value_text (i32 z) bytes u p = as_text (λ b used. IsSigned b z used) (IsValue (i32 z)) (λ b used q. (q, p.1)) (uleb_text bytes (zigzag_of z) u p.0)
  value_text (i64 z) bytes u p = uleb_text bytes (zigzag_of z) u p
  value_text (double text) bytes u p = double_text bytes text u p
  value_text (binary text) bytes u p = binary_text text (uleb_text bytes (length text) p.head p.size)
  value_text (list k xs) bytes u p =
      let code = p.2.0 in
      then_text (λ b used. IsListHead b k (count xs) used) (AreElements xs k) (IsValue (list k xs)) (λ b s t first second. (s, t, first, second, refl))
      (list_head_text k (count xs) code (size_of_head bytes k (count xs) p.0 p.2)) (elements_text xs k (drop p.0 bytes) p.1 p.3)
  value_text (set k xs) bytes u p =
      let code = p.2.0 in
      then_text (λ b used. IsListHead b k (count xs) used) (AreElements xs k) (IsValue (set k xs)) (λ b s t first second. (s, t, first, second, refl))
      (list_head_text k (count xs) code (size_of_head bytes k (count xs) p.0 p.2)) (elements_text xs k (drop p.0 bytes) p.1 p.3)
  value_text empty_map bytes u p = uleb_text bytes 0 u p
  value_text (map k v ps) bytes u p =
      then_text (λ b used. IsMapHead b k v (count_pairs ps) used) (ArePairs ps k v) (IsValue (map k v ps)) (λ b s t first second. (s, t, first, second, refl))
      (map_head_text bytes k v (count_pairs ps) p.0 p.2) (pairs_text ps k v (drop p.0 bytes) p.1 p.3)
  value_text (struct fs) bytes u p = fields_text fs (pos 0) bytes u p

  pub elements_text : (xs : Nodes) (k : ℕ) (bytes : List ℕ) (u : ℕ) → AreElements xs k bytes u → HasText (AreElements xs k)
  elements_text no_nodes k bytes u p = no_text (AreElements no_nodes k) (λ b. refl)
  elements_text (node x xs) k bytes u p =
      let is = p.0 in
      then_text (IsValue x) (AreElements xs k) (AreElements (node x xs) k) (λ b s t first second. (is, (s, t, first, second, refl)))
      (value_text x bytes p.1.0 p.1.2) (elements_text xs k (drop p.1.0 bytes) p.1.1 p.1.3)

  pub pairs_text : (ps : Pairs) (k v : ℕ) (bytes : List ℕ) (u : ℕ) → ArePairs ps k v bytes u → HasText (ArePairs ps k v)
  pairs_text no_pairs k v bytes u p = no_text (ArePairs no_pairs k v) (λ b. refl)
  pairs_text (pair x y ps) k v bytes u p =
      let q = p.2 in
      let is = p.0 in
      let also = p.1 in
      then_text (λ b used. (s t : ℕ) × IsValue x b s × IsValue y (drop s b) t × (used ≡ s + t)) (ArePairs ps k v) (ArePairs (pair x y ps) k v)
      (λ b m r first second. (is, also, (first.0, first.1, r, first.2, first.3, subst (λ (n : ℕ). ArePairs ps k v (drop n b) r) first.4 second, ap (λ (n : ℕ). n + r) first.4)))
      (then_text (IsValue x) (IsValue y) (λ b used. (s t : ℕ) × IsValue x b s × IsValue y (drop s b) t × (used ≡ s + t)) (λ b s t first second. (s, t, first, second, refl)) (value_text x bytes q.0 q.3) (value_text y (drop q.0 bytes) q.1 q.4))
      (pairs_text ps k v (drop (q.0 + q.1) bytes) q.2 q.5)

  pub fields_text : (fs : Fields) (previous : ℤ) (bytes : List ℕ) (u : ℕ) → AreFields fs previous bytes u → HasText (AreFields fs previous)
  fields_text no_fields previous bytes u p = byte_text 0
  fields_text (field id x fs) previous bytes u p =
      field_then previous id x fs
      (field_head_text previous bytes id (kind x) p.0 p.3)
      (value_text x (drop p.0 bytes) p.1 p.4)
      (fields_text fs id (drop (p.0 + p.1) bytes) p.2 p.5)
