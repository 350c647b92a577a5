-- Values that are known to stand.
use Rattle.std.proofs.Common.{Fits, w8, ◌≡◌, ℕ, zero, suc, ◌+◌, ◌*◌, ◌^◌, ◌<◌, ◌≤◌, List, [], ◌∷◌, ◌++◌, length, get_or, take, drop, refl, sym, ap, subst, ◌∙◌, arith, append_assoc, inl, inr}
use Rattle.std.specs.Int.{from_bool}
use Rattle.std.proofs.lemmas.Bool.{cases_lt}
use Rattle.std.proofs.lemmas.List.{length-append, length-map, length-drop, drop-drop, get_or-drop}
use Rattle.byteorder.specs.Endian.{little_bytes, little_number}
use Rattle.byteorder.specs.Numbers.{length-bytes_low_first, little_number-reads_back, little_from-take}
use Rattle.bits.specs.Bits.{packed_size}
use Rattle.bits.specs.Codec.{NothingStands, InTurn, AreInTurn}
use Rattle.bits.proofs.Turns.{turn_within}
use Rattle.schema.specs.declared.value.Kind.{Kind}
use Rattle.schema.specs.declared.value.Kind.TheVariants.{Boolean, Int32, Int64, ByteArray, FixedLenByteArray}
use Rattle.schema.specs.Values.{ValueTree}
use Rattle.plain.specs.Plain.{IsSpelled, IsPlain, spelling}
use Rattle.plain.specs.ValuesFrom.{value_at, size_at, values_from, end_from, greatest_end}
use Rattle.plain.proofs.Places.{count_from, first_there, boolean_end, booleans_stand, sized_end, sized_in_turn}
use Rattle.plain.proofs.Spelled.{of_byte_array, spelling_size, spelled_within, are_bytes, byte_array_front}

-- ---- what stands is there

-- how far the value after this one stands
pub spelled_size : (kind : Kind) (at : ℕ) (body : List ℕ) (v : ValueTree) (used : ℕ) → IsSpelled kind (drop at body) v used → size_at kind at body ≡ used
spelled_size Boolean at body v used p = absurd p.has
spelled_size Int32 at body v used p = sym (p.ends ∙ spelling_size Int32 4 v refl p.has)
spelled_size Int64 at body v used p = sym (p.ends ∙ spelling_size Int64 8 v refl p.has)
spelled_size ByteArray at body v used p =
    let x = of_byte_array v p.has in
    let number = little_bytes 4 (length x.0) in
    let front : drop at body ≡ number ++ (x.0 ++ p.rest) = subst (λ (t : ValueTree). drop at body ≡ spelling ByteArray t ++ p.rest) x.1 p.front ∙ append_assoc number x.0 p.rest in
    let says : little_number 4 (drop at body) ≡ length x.0 = ap (λ (t : List ℕ). little_number 4 t) front ∙ little_number-reads_back 4 (length x.0) (x.0 ++ p.rest) (omega (arith, x.3)) in
    let ends : used ≡ length (number ++ x.0) = p.ends ∙ ap (λ (t : ValueTree). length (spelling ByteArray t)) x.1 in
    omega (arith, says, ends, length-append number x.0, length-bytes_low_first 0 4 (length x.0))
spelled_size (FixedLenByteArray k) at body v used p = sym (p.ends ∙ spelling_size (FixedLenByteArray k) k v refl p.has)

pub turned_end : (kind : Kind) (values : List ValueTree) (at used : ℕ) (body : List ℕ) → InTurn (IsSpelled kind) (drop at body) values used → end_from kind (length values) at body ≡ at + used
turned_end kind [] at used body p = omega (arith, p)
turned_end kind (v ∷ values) at used body p =
    let rest : InTurn (IsSpelled kind) (drop (at + p.0) body) values p.1 = subst (λ (t : List ℕ). InTurn (IsSpelled kind) t values p.1) (drop-drop p.0 at body) p.3 in
    subst (λ (k : ℕ). end_from kind (length values) (at + k) body ≡ at + used) (sym (spelled_size kind at body v p.0 p.2)) (turned_end kind values (at + p.0) p.1 body rest ∙ omega (arith, p.4))

turned_there : (kind : Kind) (n : ℕ) (body : List ℕ) (values : List ValueTree) (used : ℕ) → AreInTurn (IsSpelled kind) n body values used → end_from kind n 0 body ≤ length body
turned_there kind n body values used p =
    let ends : end_from kind n 0 body ≡ 0 + used = subst (λ (k : ℕ). end_from kind k 0 body ≡ 0 + used) p.0 (turned_end kind values 0 used body p.1) in
    omega (arith, ends, turn_within (IsSpelled kind) (spelled_within kind) values body used p.1)

plain_there : (kind : Kind) (n : ℕ) (body : List ℕ) (values : List ValueTree) (used : ℕ) → n < 2 ^ 64 → IsPlain kind n body values used → end_from kind n 0 body ≤ greatest_end kind body
plain_there Boolean n body values used small p =
    let within = p.packed.within in
    omega (arith, within, length-map p.bools from_bool, p.count, boolean_end n 0 body, small)
plain_there Int32 n body values used small p = turned_there Int32 n body values used p
plain_there Int64 n body values used small p = turned_there Int64 n body values used p
plain_there ByteArray n body values used small p = turned_there ByteArray n body values used p
plain_there (FixedLenByteArray k) n body values used small p = turned_there (FixedLenByteArray k) n body values used p

-- values that are known to stand are there
pub known_there : (kind : Kind) (n : ℕ) (body : List ℕ) → n < 2 ^ 64 → (NothingStands (IsPlain kind n body) → ⊥) → end_from kind n 0 body ≤ greatest_end kind body
known_there kind n body small stood =
    elim (cases_lt (greatest_end kind body) (end_from kind n 0 body)) [
      | inl past ↦ absurd (stood (λ values used p. absurd (omega (arith, past, plain_there kind n body values used small p))))
      | inr there ↦ there
    ]

-- ---- what is there stands

pub arrays_stand : (n at : ℕ) (body : List ℕ) → ((i : ℕ) → Fits w8 (get_or body i 0)) → end_from ByteArray n at body ≤ length body → (used : ℕ) × InTurn (IsSpelled ByteArray) (drop at body) (values_from ByteArray n at body) used
arrays_stand zero at body below there = (0, refl)
arrays_stand (suc n) at body below there =
    let size = size_at ByteArray at body in
    let rest = arrays_stand n (at + size) body below there in
    let number = little_number 4 (drop at body) in
    let within : at + size ≤ length body = first_there ByteArray (suc n) at (length body) body (omega arith) there in
    let room : 4 + number ≤ length (drop at body) = omega (arith, within, length-drop at body) in
    let here : IsSpelled ByteArray (drop at body) (value_at ByteArray at body) size =
    byte_array_front (drop at body) (take number (drop 4 (drop at body))) number (λ i. subst (λ (k : ℕ). Fits w8 k) (sym (get_or-drop at body i 0)) (below (at + i))) (omega (arith, room)) (sym (little_from-take 0 4 4 (drop at body) (omega arith))) (omega (arith, room, length-drop 4 (drop at body))) refl in
    (size + rest.0, (size, rest.0, here, subst (λ (t : List ℕ). InTurn (IsSpelled ByteArray) t (values_from ByteArray n (at + size) body) rest.0) (sym (drop-drop size at body)) rest.1, refl))

-- values that are there stand
pub there_stand : (kind : Kind) (n : ℕ) (body : List ℕ) → ((i : ℕ) → Fits w8 (get_or body i 0)) → end_from kind n 0 body ≤ greatest_end kind body → (used : ℕ) × IsPlain kind n body (values_from kind n 0 body) used
there_stand Boolean n body below there = (packed_size n 1, booleans_stand body n (packed_size n 1) (omega (arith, there, boolean_end n 0 body)) refl)
there_stand Int32 n body below there = (n * 4, (count_from Int32 n 0 body, sized_in_turn Int32 4 n 0 body refl (are_bytes body below) (omega (arith, there, sized_end Int32 4 n 0 body refl))))
there_stand Int64 n body below there = (n * 8, (count_from Int64 n 0 body, sized_in_turn Int64 8 n 0 body refl (are_bytes body below) (omega (arith, there, sized_end Int64 8 n 0 body refl))))
there_stand ByteArray n body below there = let all = arrays_stand n 0 body below there in (all.0, (count_from ByteArray n 0 body, all.1))
there_stand (FixedLenByteArray k) n body below there = (n * k, (count_from (FixedLenByteArray k) n 0 body, sized_in_turn (FixedLenByteArray k) k n 0 body refl (are_bytes body below) (omega (arith, there, sized_end (FixedLenByteArray k) k n 0 body refl))))
