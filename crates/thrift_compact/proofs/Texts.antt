-- Texts that stand whatever follows them, from numbers and sizes that fit.
use Rattle.std.proofs.Common.{◌≡◌, ℕ, zero, suc, ◌+◌, ◌-◌, ◌*◌, ◌/◌, ◌%◌, ◌^◌, ◌<◌, ◌≤◌, List, [], ◌∷◌, ◌++◌, length, take, drop, get_or, refl, sym, ap, subst, ◌∙◌, arith, append_assoc, inl, inr}
use Rattle.std.specs.Prelude.{ℤ, FitsSigned}
use Rattle.std.specs.Int.{w8, w16, cast_unsigned}
use Rattle.std.proofs.lemmas.Bool.{cases_lt}
use Rattle.std.proofs.Math.Nat.{pow-suc}
use Rattle.std.proofs.lemmas.Int.{to_z-of_z}
use Rattle.std.proofs.lemmas.List.{length-append, length-drop, drop_at, take_at, get_or_append_left}
use Rattle.bits.specs.Varint.{groups, IsUleb, zigzag_of}
use Rattle.thrift_compact.specs.Compact.{IsByte, IsSignedByte, IsDouble, IsBinary, IsFieldHead, IsListHead, IsMapHead}

-- a text that stands, whatever follows it
pub record HasText (Stands : List ℕ → ℕ → Type 0) : Type 0 where
  pub text : List ℕ
  pub stands : (more : List ℕ) → Stands (text ++ more) (length text)

-- one text behind the other
pub then_text : (First Second Both : List ℕ → ℕ → Type 0) → ((bytes : List ℕ) (u v : ℕ) → First bytes u → Second (drop u bytes) v → Both bytes (u + v)) → HasText First → HasText Second → HasText Both
then_text First Second Both joins p q =
    let text = p.text ++ q.text in
    let size : length text ≡ length p.text + length q.text = length-append p.text q.text in
    record {
      text = text;
      stands = λ rest.
          let whole : text ++ rest ≡ p.text ++ (q.text ++ rest) = append_assoc p.text q.text rest in
          let back : drop (length p.text) (text ++ rest) ≡ q.text ++ rest = rw whole (drop_at p.text (q.text ++ rest) (length p.text) refl) in
          let first = subst (λ (t : List ℕ). First t (length p.text)) (sym whole) (p.stands (q.text ++ rest)) in
          let second = subst (λ (t : List ℕ). Second t (length q.text)) (sym back) (q.stands rest) in
          subst (λ (n : ℕ). Both (text ++ rest) n) (sym size) (joins (text ++ rest) (length p.text) (length q.text) first second);
    }

pub as_text : (First Other : List ℕ → ℕ → Type 0) → ((bytes : List ℕ) (u : ℕ) → First bytes u → Other bytes u) → HasText First → HasText Other
as_text First Other so p = record { text = p.text; stands = λ more. so (p.text ++ more) (length p.text) (p.stands more) }

pub no_text : (Stands : List ℕ → ℕ → Type 0) → ((bytes : List ℕ) → Stands bytes 0) → HasText Stands
no_text Stands stands = record { text = []; stands = stands }

pub byte_text : (b : ℕ) → HasText (λ bytes used. IsByte bytes b used)
byte_text b = record { text = b ∷ []; stands = λ more. record { some = omega arith; is = refl; one = refl } }

-- ---- varints

-- the groups of a number, in at most `most` bytes
record InGroups (n most : ℕ) : Type 0 where
  text : List ℕ
  last : ℕ
  size : length text ≡ suc last
  few : suc last ≤ most
  high : (k : ℕ) → k < last → 128 ≤ get_or text k 0
  low : get_or text last 0 < 128
  number : n ≡ groups text

last_group : (n most : ℕ) → n < 128 → InGroups n (suc most)
last_group n most h = record { text = n ∷ []; last = 0; size = refl; few = omega arith; high = λ k lt. absurd (omega (arith, lt)); low = h; number = omega (arith, h) }

one_high : (b : ℕ) (bytes : List ℕ) (last : ℕ) → 128 ≤ b → ((k : ℕ) → k < last → 128 ≤ get_or bytes k 0) → (k : ℕ) → k < suc last → 128 ≤ get_or (b ∷ bytes) k 0
one_high b bytes last h each zero lt = h
one_high b bytes last h each (suc k) lt = each k (omega (arith, lt))

one_more : (n most : ℕ) → 128 ≤ n → InGroups (n / 128) most → InGroups n (suc most)
one_more n most h p =
    let e = p.number in
    record {
      text = (n % 128 + 128) ∷ p.text;
      last = suc p.last;
      size = ap suc p.size;
      few = omega (arith, p.few);
      high = one_high (n % 128 + 128) p.text p.last (omega arith) p.high;
      low = p.low;
      number = omega (arith, e);
    }

in_groups : (most n : ℕ) → n < 128 * 128 ^ most → InGroups n (suc most)
in_groups zero n h = last_group n 0 (omega (arith, h))
in_groups (suc most) n h =
    let p : 128 ^ suc most ≡ 128 ^ most * 128 = pow-suc 128 most in
    elim (cases_lt n 128) [
      | inl small ↦ last_group n (suc most) small
      | inr large ↦ one_more n (suc most) large (in_groups most (n / 128) (omega (arith, h, p)))
    ]

pub uleb_text : (n : ℕ) → n < 2 ^ 64 → HasText (λ bytes used. IsUleb bytes n used)
uleb_text n h =
    let p = in_groups 9 n (omega (arith, h)) in
    let size = p.size in
    let at : length p.text - 1 ≡ p.last = omega (arith, size) in
    record {
      text = p.text;
      stands = λ more. record {
        begins = omega (arith, size);
        within = omega (arith, length-append p.text more);
        ten = omega (arith, size, p.few);
        more = λ k lt. rw (get_or_append_left p.text more 0 k (omega (arith, lt))) (p.high k (omega (arith, lt, size)));
        last = rw (get_or_append_left p.text more 0 (length p.text - 1) (omega (arith, size)), at) p.low;
        number = rw (take_at p.text more (length p.text) refl) p.number;
        fits = h;
      };
    }

-- ---- values that hold no others, and headers

-- the bytes themselves
exact_text : (text : List ℕ) → HasText (λ bytes used. (length text ≤ length bytes) × (take (length text) bytes ≡ text) × (used ≡ length text))
exact_text text = record { text = text; stands = λ more. (omega (arith, length-append text more), take_at text more (length text) refl, refl) }

pub signed_byte_text : (z : ℤ) → FitsSigned w8 z → HasText (λ bytes used. IsSignedByte bytes z used)
signed_byte_text z fits =
    as_text (λ bytes used. IsByte bytes (cast_unsigned w8 z) used) (λ bytes used. IsSignedByte bytes z used)
    (λ bytes used p. record { number = cast_unsigned w8 z; byte = p; is = sym (to_z-of_z w8 z fits) }) (byte_text (cast_unsigned w8 z))

pub double_text : (text : List ℕ) → length text ≡ 8 → HasText (λ bytes used. IsDouble bytes text used)
double_text text size =
    as_text (λ bytes used. (length text ≤ length bytes) × (take (length text) bytes ≡ text) × (used ≡ length text)) (λ bytes used. IsDouble bytes text used)
    (λ bytes used p. record { within = omega (arith, p.0, size); is = subst (λ (n : ℕ). take n bytes ≡ text) size p.1; total = p.2 ∙ size })
    (exact_text text)

pub binary_text : (text : List ℕ) → length text < 2 ^ 64 → HasText (λ bytes used. IsBinary bytes text used)
binary_text text small =
    then_text (λ bytes used. IsUleb bytes (length text) used) (λ bytes used. (length text ≤ length bytes) × (take (length text) bytes ≡ text) × (used ≡ length text)) (λ bytes used. IsBinary bytes text used)
    (λ bytes u v first second. record {
      head = u;
      size = first;
      within = omega (arith, second.0, first.within, length-drop u bytes);
      is = second.1;
      total = ap (λ (n : ℕ). u + n) second.2;
    })
    (uleb_text (length text) small) (exact_text text)

-- a byte, and a varint
byte_and_uleb : (b n : ℕ) (Both : List ℕ → ℕ → Type 0) → ((bytes : List ℕ) (v : ℕ) → IsByte bytes b 1 → IsUleb (drop 1 bytes) n v → Both bytes (1 + v)) → n < 2 ^ 64 → HasText Both
byte_and_uleb b n Both joins small =
    then_text (λ bytes used. IsByte bytes b used) (λ bytes used. IsUleb bytes n used) Both
    (λ bytes u v first second.
    let is = first.one in
    subst (λ (m : ℕ). Both bytes (m + v)) (sym is)
    (joins bytes v (subst (λ (m : ℕ). IsByte bytes b m) is first) (subst (λ (m : ℕ). IsUleb (drop m bytes) n v) is second)))
    (byte_text b) (uleb_text n small)

pub list_head_text : (k n : ℕ) → k < 16 → n < 2 ^ 64 → HasText (λ bytes used. IsListHead bytes k n used)
list_head_text k n code small =
    byte_and_uleb (240 + k) n (λ bytes used. IsListHead bytes k n used)
    (λ bytes v first second. (code, inr (record { rest = v; byte = first; is = second; total = refl }))) small

pub map_head_text : (k v n : ℕ) → k < 16 → v < 16 → 1 ≤ n → n < 2 ^ 64 → HasText (λ bytes used. IsMapHead bytes k v n used)
map_head_text k v n key value some small =
    then_text (λ bytes used. IsUleb bytes n used) (λ bytes used. IsByte bytes (16 * k + v) used) (λ bytes used. IsMapHead bytes k v n used)
    (λ bytes s t first second. record { head = s; size = first; some = some; key = key; value = value; byte = subst (λ (m : ℕ). IsByte (drop s bytes) (16 * k + v) m) second.one second; total = ap (λ (m : ℕ). s + m) second.one })
    (uleb_text n small) (byte_text (16 * k + v))

-- a long header can say each field
pub field_head_text : (previous id : ℤ) (k : ℕ) → 1 ≤ k → k < 16 → FitsSigned w16 id → zigzag_of id < 2 ^ 64 → HasText (λ bytes used. IsFieldHead previous bytes id k used)
field_head_text previous id k low high fits small =
    byte_and_uleb k (zigzag_of id) (λ bytes used. IsFieldHead previous bytes id k used)
    (λ bytes v first second. (low, high, fits, inr (record { rest = v; byte = first; is = second; total = refl }))) small
