-- Values from an index on.
use Rattle.std.proofs.Common.{◌≡◌, ℕ, zero, suc, ◌+◌, ◌*◌, ◌^◌, ◌<◌, ◌≤◌, List, [], ◌∷◌, ◌++◌, length, get_or, take, drop, refl, sym, ap, subst, ◌∙◌, arith}
use Rattle.std.specs.Prelude.{nat_eq, map}
use Rattle.std.specs.Int.{w32, w64, cast_signed, from_bool}
use Rattle.std.proofs.Math.Facts.{sfits_to_z, Fits-of_lt}
use Rattle.std.proofs.lemmas.List.{length-map, length-take-le, length-drop, drop-drop}
use Rattle.std.proofs.lemmas.List.Elements.{All-take, All-drop}
use Rattle.byteorder.specs.Endian.{little_number}
use Rattle.byteorder.specs.Numbers.{little_from-lt, little_from-take}
use Rattle.bits.specs.Bits.{bits, packed_size}
use Rattle.bits.specs.Codec.{InTurn}
use Rattle.bits.proofs.BitLists.{length-bits}
use Rattle.schema.specs.declared.value.Kind.{Kind}
use Rattle.schema.specs.declared.value.Kind.TheVariants.{Boolean, Int32, Int64, ByteArray, FixedLenByteArray}
use Rattle.schema.specs.Values.{ValueTree, boolean, integer, bytes}
use Rattle.plain.specs.Plain.{AreBytes, IsSpelled, AreBooleans}
use Rattle.plain.specs.ValuesFrom.{value_at, size_at, values_from, end_from}
use Rattle.plain.specs.inner.Sized.{HasSize}
use Rattle.plain.proofs.Bools.{BoolsRead, bit_at, read_more, number_one}
use Rattle.plain.proofs.Numbers.{below_256}
use Rattle.plain.proofs.Spelled.{int32_alone, int64_alone, spelled_alone, spelled_at}

pub count_from : (kind : Kind) (n at : ℕ) (body : List ℕ) → length (values_from kind n at body) ≡ n
count_from kind zero at body = refl
count_from kind (suc n) at body = ap suc (count_from kind n (at + size_at kind at body) body)

-- ---- the first one

pub end_after : (kind : Kind) (n at : ℕ) (body : List ℕ) → at ≤ end_from kind n at body
end_after kind zero at body = omega arith
end_after kind (suc n) at body = omega (arith, end_after kind n (at + size_at kind at body) body)

-- the first of values that are there is there
pub first_there : (kind : Kind) (n at top : ℕ) (body : List ℕ) → 0 < n → end_from kind n at body ≤ top → at + size_at kind at body ≤ top
first_there kind zero at top body some there = absurd (omega (arith, some))
first_there kind (suc n) at top body some there = omega (arith, there, end_after kind n (at + size_at kind at body) body)

-- ---- the last one

end_step : (kind : Kind) (n at : ℕ) (body : List ℕ) → end_from kind (suc n) at body ≡ end_from kind n at body + size_at kind (end_from kind n at body) body
end_step kind zero at body = refl
end_step kind (suc n) at body = end_step kind n (at + size_at kind at body) body

pub end_more : (kind : Kind) (n at : ℕ) (body : List ℕ) → end_from kind (n + 1) at body ≡ end_from kind n at body + size_at kind (end_from kind n at body) body
end_more kind n at body = let one : n + 1 ≡ suc n = omega arith in ap (λ (k : ℕ). end_from kind k at body) one ∙ end_step kind n at body

values_step : (kind : Kind) (n at : ℕ) (body : List ℕ) → values_from kind (suc n) at body ≡ values_from kind n at body ++ value_at kind (end_from kind n at body) body ∷ []
values_step kind zero at body = refl
values_step kind (suc n) at body = ap (λ (vs : List ValueTree). value_at kind at body ∷ vs) (values_step kind n (at + size_at kind at body) body)

pub values_more : (kind : Kind) (n at : ℕ) (body : List ℕ) → values_from kind (n + 1) at body ≡ values_from kind n at body ++ value_at kind (end_from kind n at body) body ∷ []
values_more kind n at body = let one : n + 1 ≡ suc n = omega arith in ap (λ (k : ℕ). values_from kind k at body) one ∙ values_step kind n at body

-- ---- booleans

pub boolean_end : (n at : ℕ) (body : List ℕ) → end_from Boolean n at body ≡ at + n
boolean_end zero at body = omega arith
boolean_end (suc n) at body = omega (arith, boolean_end n (at + 1) body)

booleans_read : (body : List ℕ) (n : ℕ) → BoolsRead body (values_from Boolean n 0 body) n
booleans_read body zero = record { bools = []; are = refl; count = refl; each = λ k lt. absurd (omega (arith, lt)) }
booleans_read body (suc n) =
    let before = values_from Boolean n 0 body in
    let more = subst (λ (k : ℕ). BoolsRead body (before ++ boolean (nat_eq k 1) ∷ []) (n + 1)) (bit_at body n) (read_more body before n (booleans_read body n)) in
    let one : n + 1 ≡ suc n = omega arith in
    let place : n ≡ end_from Boolean n 0 body = omega (arith, boolean_end n 0 body) in
    let same : before ++ boolean (nat_eq (get_or (bits body) n 0) 1) ∷ [] ≡ values_from Boolean (suc n) 0 body = ap (λ (at : ℕ). before ++ value_at Boolean at body ∷ []) place ∙ sym (values_step Boolean n 0 body) in
    subst (λ (k : ℕ). BoolsRead body (values_from Boolean (suc n) 0 body) k) one (subst (λ (vs : List ValueTree). BoolsRead body vs (n + 1)) same more)

pub booleans_stand : (body : List ℕ) (n used : ℕ) → n ≤ 8 * length body → used ≡ packed_size n 1 → AreBooleans n body (values_from Boolean n 0 body) used
booleans_stand body n used within ends =
    let p = booleans_read body n in
    let size : length (map from_bool p.bools) ≡ n = length-map p.bools from_bool ∙ p.count in
    record {
      bools = p.bools;
      are = p.are;
      count = p.count;
      packed = record {
        within = omega (arith, size, within);
        each = λ i lt. p.each i (omega (arith, lt, size)) ∙ sym (number_one (bits body) i (omega (arith, lt, size, within, length-bits body)));
      };
      ends = ends;
    }

-- ---- types with one size

size_of_sized : (kind : Kind) (size at : ℕ) (body : List ℕ) → HasSize kind size → size_at kind at body ≡ size
size_of_sized Boolean size at body is = absurd is
size_of_sized Int32 size at body is = sym is
size_of_sized Int64 size at body is = sym is
size_of_sized ByteArray size at body is = absurd is
size_of_sized (FixedLenByteArray k) size at body is = sym is

pub sized_end : (kind : Kind) (size n at : ℕ) (body : List ℕ) → HasSize kind size → end_from kind n at body ≡ at + n * size
sized_end kind size zero at body is = omega arith
sized_end kind size (suc n) at body is =
    let one : suc n * size ≡ n * size + size = omega arith in
    sized_end kind size n (at + size_at kind at body) body is ∙ omega (arith, size_of_sized kind size at body is, one)

-- the first bytes
first_bytes : (size at : ℕ) (body : List ℕ) → AreBytes body → at + size ≤ length body → AreBytes (take size (drop at body)) × (length (take size (drop at body)) ≡ size)
first_bytes size at body are within = (All-take (λ b. b < 256) size (drop at body) (All-drop (λ b. b < 256) at body are), length-take-le size (drop at body) (omega (arith, within, length-drop at body)))

sized_stands : (kind : Kind) (size at : ℕ) (body : List ℕ) → HasSize kind size → AreBytes body → at + size ≤ length body → IsSpelled kind (drop at body) (value_at kind at body) size
sized_stands Boolean size at body is are within = absurd is
sized_stands Int32 size at body is are within =
    let text = take 4 (drop at body) in
    let room : at + 4 ≤ length body = omega (arith, is, within) in
    let front = first_bytes 4 at body are room in
    let small : little_number 4 text < 2 ^ 32 = little_from-lt 0 4 text (below_256 text front.0) in
    let p = int32_alone text front.1 front.0 (sfits_to_z {w = w32} {n = little_number 4 text} (Fits-of_lt {w = w32} {n = little_number 4 text} small)) in
    let v = integer (cast_signed w32 (little_number 4 (drop at body))) in
    rw is (spelled_at Int32 body text at 4 v refl room (subst (λ (k : ℕ). IsSpelled Int32 text (integer (cast_signed w32 k)) (length text)) (little_from-take 0 4 4 (drop at body) (omega arith)) p))
sized_stands Int64 size at body is are within =
    let text = take 8 (drop at body) in
    let room : at + 8 ≤ length body = omega (arith, is, within) in
    let front = first_bytes 8 at body are room in
    let small : little_number 8 text < 2 ^ 64 = little_from-lt 0 8 text (below_256 text front.0) in
    let p = int64_alone text front.1 front.0 (sfits_to_z {w = w64} {n = little_number 8 text} (Fits-of_lt {w = w64} {n = little_number 8 text} small)) in
    let v = integer (cast_signed w64 (little_number 8 (drop at body))) in
    rw is (spelled_at Int64 body text at 8 v refl room (subst (λ (k : ℕ). IsSpelled Int64 text (integer (cast_signed w64 k)) (length text)) (little_from-take 0 8 8 (drop at body) (omega arith)) p))
sized_stands ByteArray size at body is are within = absurd is
sized_stands (FixedLenByteArray k) size at body is are within =
    let text = take k (drop at body) in
    let room : at + k ≤ length body = omega (arith, is, within) in
    let front = first_bytes k at body are room in
    rw is (spelled_at (FixedLenByteArray k) body text at k (bytes text) refl room (spelled_alone (FixedLenByteArray k) (bytes text) text front refl))

pub sized_in_turn : (kind : Kind) (size n at : ℕ) (body : List ℕ) → HasSize kind size → AreBytes body → at + n * size ≤ length body → InTurn (IsSpelled kind) (drop at body) (values_from kind n at body) (n * size)
sized_in_turn kind size zero at body is are within = omega arith
sized_in_turn kind size (suc n) at body is are within =
    let all : suc n * size ≡ size + n * size = omega arith in
    let here = sized_stands kind size at body is are (omega (arith, within, all)) in
    let rest = sized_in_turn kind size n (at + size) body is are (omega (arith, within, all)) in
    let place : drop (at + size) body ≡ drop size (drop at body) = sym (drop-drop size at body) in
    (size, n * size, here, rw (size_of_sized kind size at body is) (subst (λ (b : List ℕ). InTurn (IsSpelled kind) b (values_from kind n (at + size) body) (n * size)) place rest), all)
