-- Headers and binaries that were written part by part.
use Rattle.std.proofs.Common.{◌≡◌, ℕ, ◌+◌, ◌*◌, ◌<◌, ◌≤◌, List, [], ◌∷◌, ◌++◌, length, take, drop, refl, sym, subst, ◌∙◌, arith, inl, inr}
use Rattle.std.specs.Prelude.{ℤ, ◌-ℤ◌, FitsSigned, true, false}
use Rattle.std.specs.Int.{w16}
use Rattle.std.proofs.lemmas.List.{length-append, length-drop, take-append-le, take_all}
use Rattle.bits.specs.Codec.{Appends}
use Rattle.bits.specs.Varint.{IsUleb}
use Rattle.thrift_compact.specs.Compact.{IsByte, IsBinary, IsSigned, IsListHead, IsMapHead, IsFieldHead}
use Rattle.thrift_compact.specs.Length.{size_length, size_i64, size_i16, size_list_head, size_field_head, is_step}
use Rattle.thrift_compact.specs.inner.Writing.{IsShortestSigned, IsStep}
use Rattle.thrift_compact.proofs.Appending.{appends_as, appends_so, appends_then, pushed}
use Rattle.thrift_compact.proofs.Sizes.{long_list_head, short_size, if_true, if_false}

byte_one : (bytes : List ℕ) (b used : ℕ) → IsByte bytes b used → IsByte bytes b 1
byte_one bytes b used p = record { some = p.some; is = p.is; one = refl }

pub list_head_then : (k n : ℕ) (old mid new : List ℕ) → k < 16 → 14 < n → mid ≡ old ++ (240 + k) ∷ [] → Appends (λ bytes. IsUleb bytes n) (size_length n) mid new → Appends (λ bytes. IsListHead bytes k n) (size_list_head n) old new
list_head_then k n old mid new small more e p =
    subst (λ (m : ℕ). Appends (λ bytes. IsListHead bytes k n) m old new) (sym (long_list_head n more))
    (appends_then (λ bytes. IsByte bytes (240 + k)) (λ bytes. IsUleb bytes n) (λ bytes. IsListHead bytes k n) 1 (size_length n) old mid new
    (λ bytes u v a b. (small, inr (record { rest = v; byte = byte_one bytes (240 + k) u a; is = subst (λ (j : ℕ). IsUleb (drop j bytes) n v) a.one b; total = omega (arith, a.one) }))) (pushed old mid (240 + k) e) p)

pub map_head_then : (k l n : ℕ) (old mid new : List ℕ) → k < 16 → l < 16 → 1 ≤ n → Appends (λ bytes. IsUleb bytes n) (size_length n) old mid → new ≡ mid ++ (16 * k + l) ∷ [] → Appends (λ bytes. IsMapHead bytes k l n) (size_length n + 1) old new
map_head_then k l n old mid new key value some p e =
    appends_then (λ bytes. IsUleb bytes n) (λ bytes. IsByte bytes (16 * k + l)) (λ bytes. IsMapHead bytes k l n) (size_length n) 1 old mid new
    (λ bytes u v a b. record { head = u; size = a; some = some; key = key; value = value; byte = byte_one (drop u bytes) (16 * k + l) v b; total = omega (arith, b.one) }) p (pushed mid new (16 * k + l) e)

-- the bytes themselves
abbrev IsText : List ℕ → List ℕ → ℕ → Type 0
IsText text bytes used = (length text ≤ length bytes) × (take (length text) bytes ≡ text) × (used ≡ length text)

pub binary_then : (text old mid new : List ℕ) → Appends (λ bytes. IsUleb bytes (length text)) (size_length (length text)) old mid → new ≡ mid ++ text → Appends (λ bytes. IsBinary bytes text) (size_length (length text) + length text) old new
binary_then text old mid new p e =
    appends_then (λ bytes. IsUleb bytes (length text)) (IsText text) (λ bytes. IsBinary bytes text) (size_length (length text)) (length text) old mid new
    (λ bytes u v a b. record { head = u; size = a; within = omega (arith, a.within, b.0, length-drop u bytes); is = b.1; total = omega (arith, b.2) }) p
    (record {
      text = text;
      joined = e;
      stands = λ more. (omega (arith, length-append text more), take-append-le (length text) text more (omega arith) ∙ take_all (length text) text (omega arith), refl);
      short = omega arith;
    })

pub short_head : (previous id : ℤ) (k step : ℕ) (old new : List ℕ) → 1 ≤ k → k < 16 → FitsSigned w16 id → (is_step (id -ℤ previous) ≡ true) × IsStep previous id step → new ≡ old ++ (16 * step + k) ∷ []
    → Appends (λ bytes. IsFieldHead previous bytes id k) (size_field_head previous id) old new
short_head previous id k step old new low high fits is e =
    subst (λ (m : ℕ). Appends (λ bytes. IsFieldHead previous bytes id k) m old new) (sym (if_true (is_step (id -ℤ previous)) 1 (1 + size_i16 id) is.0))
    (appends_so (λ bytes. IsByte bytes (16 * step + k)) (λ bytes. IsFieldHead previous bytes id k) 1 old new
    (λ bytes u a. (low, high, fits, inl (record { step = step; low = is.1.low; high = is.1.high; byte = a; is = is.1.is }))) (pushed old new (16 * step + k) e))

pub long_head : (previous id : ℤ) (k : ℕ) (old mid new : List ℕ) → 1 ≤ k → k < 16 → FitsSigned w16 id → is_step (id -ℤ previous) ≡ false → mid ≡ old ++ k ∷ [] → Appends (IsShortestSigned id) (size_i64 id) mid new
    → Appends (λ bytes. IsFieldHead previous bytes id k) (size_field_head previous id) old new
long_head previous id k old mid new low high fits not e p =
    let fewest = appends_as (IsShortestSigned id) (λ bytes. IsSigned bytes id) (size_i64 id) (size_i16 id) mid new (λ bytes u a. a.spelled) (λ bytes u a. short_size bytes id u fits a) p in
    subst (λ (m : ℕ). Appends (λ bytes. IsFieldHead previous bytes id k) m old new) (sym (if_false (is_step (id -ℤ previous)) 1 (1 + size_i16 id) not))
    (appends_then (λ bytes. IsByte bytes k) (λ bytes. IsSigned bytes id) (λ bytes. IsFieldHead previous bytes id k) 1 (size_i16 id) old mid new
    (λ bytes u v a b. (low, high, fits, inr (record { rest = v; byte = byte_one bytes k u a; is = subst (λ (j : ℕ). IsSigned (drop j bytes) id v) a.one b; total = omega (arith, a.one) }))) (pushed old mid k e) fewest)
