-- Bytes that are the spellings of values, and bytes that are cut off them.
use Rattle.std.proofs.Common.{Fits, w8, ◌≡◌, ℕ, zero, suc, ◌+◌, ◌-◌, ◌<◌, ◌≤◌, List, [], ◌∷◌, ◌++◌, length, get_or, take, drop, refl, sym, ap, subst, ◌∙◌, arith, append_assoc, length-append, take_at, drop_at, inl, inr}
use Rattle.std.specs.Prelude.{◌⊎◌, min, Result, Ok, Err, IfOk, IfErr, OnOk, OnErr}
use Rattle.std.specs.List.{Any, flat_map, AllByRecursion}
use Rattle.std.specs.Int.{w32, w64, byte_at, bytes_low_first, cast_unsigned, cast_signed}
use Rattle.std.proofs.Math.Facts.{Fits-of_lt}
use Rattle.std.proofs.lemmas.List.Elements.{All-append, All-from_recursion}
use Rattle.std.proofs.lemmas.Int.{to_z-of_z}
use Rattle.std.proofs.lemmas.List.{append-nil, drop-drop}
use Rattle.byteorder.specs.Endian.{little_bytes, little_number}
use Rattle.byteorder.specs.Numbers.{length-bytes_low_first, little_number-reads_back}
use Rattle.bits.specs.declared.refusal.Refusal.{Refusal}
use Rattle.bits.specs.declared.refusal.Refusal.TheVariants.{Truncated, Limit}
use Rattle.bits.specs.Refusals.{IsFault, OnFault, IsLimitJustWhere, LimitJustWhere}
use Rattle.bits.specs.Codec.{NothingStands, InTurn, AreInTurn}
use Rattle.bits.proofs.Turns.{one_turn}
use Rattle.schema.specs.declared.value.Kind.{Kind}
use Rattle.schema.specs.declared.value.Kind.TheVariants.{Boolean, Int32, Int64, ByteArray, FixedLenByteArray}
use Rattle.schema.specs.Values.{ValueTree, integer, bytes}
use Rattle.plain.specs.Plain.{AreBytes, HasSpelling, spelling, IsSpelled, IsPlain, AnnouncesTooMuch, IsReadOver, IsTooLong}
use Rattle.plain.specs.ValuesFrom.{value_at, size_at, values_from, end_from, greatest_end}
use Rattle.plain.specs.inner.First.{AreFirst}
use Rattle.plain.proofs.Numbers.{below_256}
use Rattle.plain.proofs.Known.{spelled_size, turned_end, arrays_stand}
use Rattle.plain.proofs.Places.{count_from, end_after, sized_end, sized_in_turn}
use Rattle.plain.proofs.Spelled.{one_spelled, of_int32, of_int64, of_byte_array, of_fixed, small_32, small_64, are_bytes}
use Rattle.plain.proofs.Written.{turned, plain_turned}

-- ---- spellings one after another are the values from their start on

-- the value that is spelled at an index is the value there
spelled_value : (kind : Kind) (at : ℕ) (body : List ℕ) (v : ValueTree) (used : ℕ) → IsSpelled kind (drop at body) v used → value_at kind at body ≡ v
spelled_value Boolean at body v used p = absurd p.has
spelled_value Int32 at body v used p =
    let x = of_int32 v p.has in
    let number = cast_unsigned w32 x.0 in
    let front : drop at body ≡ little_bytes 4 number ++ p.rest = subst (λ (t : ValueTree). drop at body ≡ spelling Int32 t ++ p.rest) x.1 p.front in
    let says : little_number 4 (drop at body) ≡ number = ap (λ (t : List ℕ). little_number 4 t) front ∙ little_number-reads_back 4 number p.rest (small_32 x.0 x.2) in
    ap (λ (n : ℕ). integer (cast_signed w32 n)) says ∙ ap integer (to_z-of_z w32 x.0 x.2) ∙ sym x.1
spelled_value Int64 at body v used p =
    let x = of_int64 v p.has in
    let number = cast_unsigned w64 x.0 in
    let front : drop at body ≡ little_bytes 8 number ++ p.rest = subst (λ (t : ValueTree). drop at body ≡ spelling Int64 t ++ p.rest) x.1 p.front in
    let says : little_number 8 (drop at body) ≡ number = ap (λ (t : List ℕ). little_number 8 t) front ∙ little_number-reads_back 8 number p.rest (small_64 x.0 x.2) in
    ap (λ (n : ℕ). integer (cast_signed w64 n)) says ∙ ap integer (to_z-of_z w64 x.0 x.2) ∙ sym x.1
spelled_value ByteArray at body v used p =
    let x = of_byte_array v p.has in
    let number = little_bytes 4 (length x.0) in
    let front : drop at body ≡ number ++ (x.0 ++ p.rest) = subst (λ (t : ValueTree). drop at body ≡ spelling ByteArray t ++ p.rest) x.1 p.front ∙ append_assoc number x.0 p.rest in
    let says : little_number 4 (drop at body) ≡ length x.0 = ap (λ (t : List ℕ). little_number 4 t) front ∙ little_number-reads_back 4 (length x.0) (x.0 ++ p.rest) (omega (arith, x.3)) in
    let after : drop 4 (drop at body) ≡ x.0 ++ p.rest = ap (λ (t : List ℕ). drop 4 t) front ∙ drop_at number (x.0 ++ p.rest) 4 (length-bytes_low_first 0 4 (length x.0)) in
    ap (λ (n : ℕ). bytes (take n (drop 4 (drop at body)))) says ∙ ap (λ (t : List ℕ). bytes (take (length x.0) t)) after ∙ ap bytes (take_at x.0 p.rest (length x.0) refl) ∙ sym x.1
spelled_value (FixedLenByteArray k) at body v used p =
    let x = of_fixed k v p.has in
    let front : drop at body ≡ x.0 ++ p.rest = subst (λ (t : ValueTree). drop at body ≡ spelling (FixedLenByteArray k) t ++ p.rest) x.1 p.front in
    ap (λ (t : List ℕ). bytes (take k t)) front ∙ ap bytes (take_at x.0 p.rest k x.3) ∙ sym x.1

turned_values : (kind : Kind) (values : List ValueTree) (at used : ℕ) (body : List ℕ) → InTurn (IsSpelled kind) (drop at body) values used → values_from kind (length values) at body ≡ values
turned_values kind [] at used body p = refl
turned_values kind (v ∷ values) at used body p =
    let rest : InTurn (IsSpelled kind) (drop (at + p.0) body) values p.1 = subst (λ (t : List ℕ). InTurn (IsSpelled kind) t values p.1) (drop-drop p.0 at body) p.3 in
    ap (λ (w : ValueTree). w ∷ values_from kind (length values) (at + size_at kind at body) body) (spelled_value kind at body v p.0 p.2)
    ∙ ap (λ (k : ℕ). v ∷ values_from kind (length values) (at + k) body) (spelled_size kind at body v p.0 p.2)
    ∙ ap (λ (vs : List ValueTree). v ∷ vs) (turned_values kind values (at + p.0) p.1 body rest)

pub spelled_in_turn : (kind : Kind) (values : List ValueTree) → AllByRecursion (HasSpelling kind) values → InTurn (IsSpelled kind) (flat_map (spelling kind) values) values (length (flat_map (spelling kind) values))
spelled_in_turn kind values has =
    let text = flat_map (spelling kind) values in
    subst (λ (t : List ℕ). InTurn (IsSpelled kind) t values (length text)) (append-nil text) (turned kind values [] has)

-- the values that were spelled are those that are read
pub spelled_values : (kind : Kind) (values : List ValueTree) → AllByRecursion (HasSpelling kind) values → values_from kind (length values) 0 (flat_map (spelling kind) values) ≡ values
spelled_values kind values has = turned_values kind values 0 _ (flat_map (spelling kind) values) (spelled_in_turn kind values has)

-- and nothing else is there
pub spelled_plain : (kind : Kind) (values : List ValueTree) → (kind ≡ Boolean → ⊥) → AllByRecursion (HasSpelling kind) values
    → IsPlain kind (length values) (flat_map (spelling kind) values) values (length (flat_map (spelling kind) values))
spelled_plain kind values not has = plain_turned kind values _ _ not (spelled_in_turn kind values has)

-- ---- the bytes of spellings

byte_below : (j x : ℕ) → byte_at j x < 256
byte_below zero x = omega arith
byte_below (suc j) x = omega arith

number_bytes : (j k x : ℕ) → AllByRecursion (λ b. b < 256) (bytes_low_first j k x)
number_bytes j zero x = tt
number_bytes j (suc k) x = (byte_below j x, number_bytes (suc j) k x)

little_below : (k x : ℕ) → AreBytes (little_bytes k x)
little_below k x = All-from_recursion (λ b. b < 256) (little_bytes k x) (number_bytes 0 k x)

spelling_bytes : (kind : Kind) (v : ValueTree) → HasSpelling kind v → AreBytes (spelling kind v)
spelling_bytes Boolean v p = absurd p
spelling_bytes Int32 v p = let x = of_int32 v p in subst (λ (t : ValueTree). AreBytes (spelling Int32 t)) (sym x.1) (little_below 4 (cast_unsigned w32 x.0))
spelling_bytes Int64 v p = let x = of_int64 v p in subst (λ (t : ValueTree). AreBytes (spelling Int64 t)) (sym x.1) (little_below 8 (cast_unsigned w64 x.0))
spelling_bytes ByteArray v p = let x = of_byte_array v p in subst (λ (t : ValueTree). AreBytes (spelling ByteArray t)) (sym x.1) (All-append (λ b. b < 256) (little_bytes 4 (length x.0)) x.0 (little_below 4 (length x.0)) x.2)
spelling_bytes (FixedLenByteArray k) v p = let x = of_fixed k v p in subst (λ (t : ValueTree). AreBytes (spelling (FixedLenByteArray k) t)) (sym x.1) x.2

pub spelled_bytes : (kind : Kind) (values : List ValueTree) → AllByRecursion (HasSpelling kind) values → AreBytes (flat_map (spelling kind) values)
spelled_bytes kind [] has = λ i d lt. absurd (omega (arith, lt))
spelled_bytes kind (v ∷ values) has = All-append (λ b. b < 256) (spelling kind v) (flat_map (spelling kind) values) (spelling_bytes kind v has.0) (spelled_bytes kind values has.1)

-- each fits a byte
pub bytes_fit : (body : List ℕ) → AreBytes body → (i : ℕ) → Fits w8 (get_or body i 0)
bytes_fit body are i = Fits-of_lt {w = w8} {n = get_or body i 0} (below_256 body are i)

-- ---- values that stand are spelled there

pub turned_apart : (kind : Kind) (values : List ValueTree) (body : List ℕ) (used : ℕ) → InTurn (IsSpelled kind) body values used
    → AllByRecursion (HasSpelling kind) values × (rest : List ℕ) × (body ≡ flat_map (spelling kind) values ++ rest) × (used ≡ length (flat_map (spelling kind) values))
turned_apart kind [] body used p = (tt, body, refl, p)
turned_apart kind (v ∷ values) body used p =
    let text = spelling kind v in
    let here = p.2 in
    let behind : drop p.0 body ≡ here.rest = ap (λ (t : List ℕ). drop p.0 t) here.front ∙ drop_at text here.rest p.0 (sym here.ends) in
    let more = turned_apart kind values (drop p.0 body) p.1 p.3 in
    let whole = flat_map (spelling kind) values in (
      (here.has, more.0),
      more.1,
      here.front ∙ ap (λ (t : List ℕ). text ++ t) (sym behind ∙ more.2) ∙ sym (append_assoc text whole more.1),
      omega (arith, p.4, here.ends, more.3, length-append text whole),
    )

-- what is cut off right after them
pub turned_cut : (kind : Kind) (values : List ValueTree) (body : List ℕ) (used : ℕ) → (kind ≡ Boolean → ⊥) → InTurn (IsSpelled kind) body values used
    → IsPlain kind (length values) (take used body) values (length (take used body))
turned_cut kind values body used not p =
    let a = turned_apart kind values body used p in
    let text = flat_map (spelling kind) values in
    let cut : take used body ≡ text = ap (λ (t : List ℕ). take used t) a.2 ∙ take_at text a.1 used (sym a.3) in
    subst (λ (t : List ℕ). IsPlain kind (length values) t values (length t)) (sym cut) (spelled_plain kind values not a.0)

-- ---- the first of the values that are there

pub values_split : (kind : Kind) (m n at : ℕ) (body : List ℕ) → values_from kind (m + n) at body ≡ values_from kind m at body ++ values_from kind n (end_from kind m at body) body
values_split kind zero n at body = let none : zero + n ≡ n = omega arith in ap (λ (k : ℕ). values_from kind k at body) none
values_split kind (suc m) n at body =
    let one : suc m + n ≡ suc (m + n) = omega arith in
    ap (λ (k : ℕ). values_from kind k at body) one ∙ ap (λ (vs : List ValueTree). value_at kind at body ∷ vs) (values_split kind m n (at + size_at kind at body) body)

pub end_split : (kind : Kind) (m n at : ℕ) (body : List ℕ) → end_from kind (m + n) at body ≡ end_from kind n (end_from kind m at body) body
end_split kind zero n at body = let none : zero + n ≡ n = omega arith in ap (λ (k : ℕ). end_from kind k at body) none
end_split kind (suc m) n at body =
    let one : suc m + n ≡ suc (m + n) = omega arith in
    ap (λ (k : ℕ). end_from kind k at body) one ∙ end_split kind m n (at + size_at kind at body) body

pub end_of_first : (kind : Kind) (m n at : ℕ) (body : List ℕ) → m ≤ n → end_from kind n at body ≡ end_from kind (n - m) (end_from kind m at body) body
end_of_first kind m n at body few = let all : n ≡ m + (n - m) = omega (arith, few) in ap (λ (k : ℕ). end_from kind k at body) all ∙ end_split kind m (n - m) at body

pub whole_end : (kind : Kind) (body : List ℕ) → (kind ≡ Boolean → ⊥) → greatest_end kind body ≡ length body
whole_end Boolean body not = absurd (not refl)
whole_end Int32 body not = refl
whole_end Int64 body not = refl
whole_end ByteArray body not = refl
whole_end (FixedLenByteArray k) body not = refl

-- so are the first of them
pub first_within : (kind : Kind) (m n at : ℕ) (body : List ℕ) → (kind ≡ Boolean → ⊥) → m ≤ n → end_from kind n at body ≤ greatest_end kind body → end_from kind m at body ≤ length body
first_within kind m n at body not few there = omega (arith, there, whole_end kind body not, end_of_first kind m n at body few, end_after kind (n - m) (end_from kind m at body) body)

pub start_within : (kind : Kind) (n at : ℕ) (body : List ℕ) → (kind ≡ Boolean → ⊥) → end_from kind n at body ≤ greatest_end kind body → at ≤ length body
start_within kind n at body not there = omega (arith, there, whole_end kind body not, end_after kind n at body)

pub there_in_turn : (kind : Kind) (n at : ℕ) (body : List ℕ) → (kind ≡ Boolean → ⊥) → ((i : ℕ) → Fits w8 (get_or body i 0)) → end_from kind n at body ≤ length body
    → (used : ℕ) × InTurn (IsSpelled kind) (drop at body) (values_from kind n at body) used
there_in_turn Boolean n at body not below there = absurd (not refl)
there_in_turn Int32 n at body not below there = (_, sized_in_turn Int32 4 n at body refl (are_bytes body below) (omega (arith, there, sized_end Int32 4 n at body refl)))
there_in_turn Int64 n at body not below there = (_, sized_in_turn Int64 8 n at body refl (are_bytes body below) (omega (arith, there, sized_end Int64 8 n at body refl)))
there_in_turn ByteArray n at body not below there = arrays_stand n at body below there
there_in_turn (FixedLenByteArray k) n at body not below there = (_, sized_in_turn (FixedLenByteArray k) k n at body refl (are_bytes body below) (omega (arith, there, sized_end (FixedLenByteArray k) k n at body refl)))

plain_in_turn : (kind : Kind) (n : ℕ) (body : List ℕ) (values : List ValueTree) (used : ℕ) → (kind ≡ Boolean → ⊥) → IsPlain kind n body values used → AreInTurn (IsSpelled kind) n body values used
plain_in_turn Boolean n body values used not p = absurd (not refl)
plain_in_turn Int32 n body values used not p = p
plain_in_turn Int64 n body values used not p = p
plain_in_turn ByteArray n body values used not p = p
plain_in_turn (FixedLenByteArray k) n body values used not p = p

-- and these are the first of the values
pub first_values : (kind : Kind) (n m left at : ℕ) (body : List ℕ) → m ≡ min n left → take n (values_from kind left at body) ≡ values_from kind m at body
first_values kind zero zero left at body is = refl
first_values kind zero (suc m) left at body is = absurd (omega (arith, is))
first_values kind (suc n) zero zero at body is = refl
first_values kind (suc n) (suc m) zero at body is = absurd (omega (arith, is))
first_values kind (suc n) zero (suc left) at body is = absurd (omega (arith, is))
first_values kind (suc n) (suc m) (suc left) at body is = ap (λ (vs : List ValueTree). value_at kind at body ∷ vs) (first_values kind n m left (at + size_at kind at body) body (omega (arith, is)))

-- ---- values that are taken

pub first_taken : (kind : Kind) (m left at : ℕ) (body : List ℕ) (values : List ValueTree) (used : ℕ) → (kind ≡ Boolean → ⊥) → ((i : ℕ) → Fits w8 (get_or body i 0)) → m ≤ left
    → end_from kind left at body ≤ greatest_end kind body → IsPlain kind m (drop at body) values used → AreFirst kind m left at body used
first_taken kind m left at body values used not below few there stands =
    let all : end_from kind left at body ≤ length body = omega (arith, there, whole_end kind body not) in
    let behind = end_of_first kind m left at body few in
    let after = end_after kind (left - m) (end_from kind m at body) body in
    let u = there_in_turn kind m at body not below (omega (arith, all, behind, after)) in
    let same = one_turn (IsSpelled kind) (one_spelled kind) m (drop at body) values (values_from kind m at body) used u.0 (plain_in_turn kind m (drop at body) values used not stands) (count_from kind m at body, u.1) in
    let stand : InTurn (IsSpelled kind) (drop at body) (values_from kind m at body) used = subst (λ (n : ℕ). InTurn (IsSpelled kind) (drop at body) (values_from kind m at body) n) (sym same.1) u.1 in
    let ends : end_from kind m at body ≡ at + used = subst (λ (k : ℕ). end_from kind k at body ≡ at + used) (count_from kind m at body) (turned_end kind (values_from kind m at body) at used body stand) in
    let split : left ≡ m + (left - m) = omega (arith, few) in
    record {
      stand = stand;
      within = omega (arith, ends, all, behind, after);
      rest = subst (λ (k : ℕ). end_from kind (left - m) k body ≤ length body) ends (omega (arith, all, behind));
      joined = ap (λ (n : ℕ). values_from kind n at body) split ∙ values_split kind m (left - m) at body ∙ ap (λ (k : ℕ). values_from kind m at body ++ values_from kind (left - m) k body) ends;
    }

-- ---- values that are too long

-- what a byte array announces is its length
array_says : (body : List ℕ) (v : ValueTree) (used : ℕ) (p : IsSpelled ByteArray body v used) → little_number 4 body ≡ length (of_byte_array v p.has).0
array_says body v used p =
    let x = of_byte_array v p.has in
    let number = little_bytes 4 (length x.0) in
    let front : body ≡ number ++ (x.0 ++ p.rest) = subst (λ (t : ValueTree). body ≡ spelling ByteArray t ++ p.rest) x.1 p.front ∙ append_assoc number x.0 p.rest in
    ap (λ (t : List ℕ). little_number 4 t) front ∙ little_number-reads_back 4 (length x.0) (x.0 ++ p.rest) (omega (arith, x.3))

array_room : (body : List ℕ) (v : ValueTree) (used : ℕ) → IsSpelled ByteArray body v used → 4 ≤ length body
array_room body v used p =
    let x = of_byte_array v p.has in
    let number = little_bytes 4 (length x.0) in
    let front : body ≡ number ++ (x.0 ++ p.rest) = subst (λ (t : ValueTree). body ≡ spelling ByteArray t ++ p.rest) x.1 p.front ∙ append_assoc number x.0 p.rest in
    omega (arith, ap length front, length-append number (x.0 ++ p.rest), length-bytes_low_first 0 4 (length x.0))

announced_long : (kind : Kind) (body : List ℕ) (v : ValueTree) (used : ℕ) → IsSpelled kind body v used → AnnouncesTooMuch kind body → IsTooLong v
announced_long Boolean body v used p much = absurd much
announced_long Int32 body v used p much = absurd much
announced_long Int64 body v used p much = absurd much
announced_long ByteArray body v used p much =
    let x = of_byte_array v p.has in
    let says = array_says body v used p in
    subst IsTooLong (sym x.1) (omega (arith, says, much.1))
announced_long (FixedLenByteArray k) body v used p much =
    let x = of_fixed k v p.has in
    subst IsTooLong (sym x.1) (omega (arith, x.3, much))

long_announced : (kind : Kind) (body : List ℕ) (v : ValueTree) (used : ℕ) → IsSpelled kind body v used → IsTooLong v → AnnouncesTooMuch kind body
long_announced Boolean body v used p long = absurd p.has
long_announced Int32 body v used p long = let x = of_int32 v p.has in absurd (subst IsTooLong x.1 long)
long_announced Int64 body v used p long = let x = of_int64 v p.has in absurd (subst IsTooLong x.1 long)
long_announced ByteArray body v used p long =
    let x = of_byte_array v p.has in
    let much = subst IsTooLong x.1 long in
    (omega (arith, array_room body v used p), omega (arith, array_says body v used p, much))
long_announced (FixedLenByteArray k) body v used p long =
    let x = of_fixed k v p.has in
    let much = subst IsTooLong x.1 long in
    omega (arith, x.3, much)

-- a value that announces too much is too long, where it stands
pub over_is_long : (kind : Kind) (before values : List ValueTree) (body : List ℕ) (at used : ℕ) → InTurn (IsSpelled kind) body before at → InTurn (IsSpelled kind) body values used → length before < length values
    → AnnouncesTooMuch kind (drop at body) → Any IsTooLong values
over_is_long kind [] [] body at used p q lt much = absurd (omega arith)
over_is_long kind [] (v ∷ values) body at used p q lt much =
    (0, v, omega arith, refl, announced_long kind body v q.0 q.2 (subst (λ (n : ℕ). AnnouncesTooMuch kind (drop n body)) p much))
over_is_long kind (w ∷ before) [] body at used p q lt much = absurd (omega arith)
over_is_long kind (w ∷ before) (v ∷ values) body at used p q lt much =
    let o = one_spelled kind body v w q.0 p.0 q.2 p.2 in
    let rest : InTurn (IsSpelled kind) (drop p.0 body) values q.1 = subst (λ (n : ℕ). InTurn (IsSpelled kind) (drop n body) values q.1) o.1 q.3 in
    let place : drop at body ≡ drop p.1 (drop p.0 body) = ap (λ (n : ℕ). drop n body) p.4 ∙ sym (drop-drop p.1 p.0 body) in
    let more = over_is_long kind before values (drop p.0 body) p.1 q.1 p.3 rest (omega (arith, lt)) (subst (AnnouncesTooMuch kind) place much) in
    (suc more.0, more.1, omega (arith, more.2), more.3, more.4)

-- and the other way round
pub long_is_over : (kind : Kind) (values : List ValueTree) (body : List ℕ) (used i : ℕ) (v : ValueTree) → InTurn (IsSpelled kind) body values used → i < length values → get_or values i v ≡ v → IsTooLong v
    → IsReadOver kind body (length values)
long_is_over kind [] body used i v p lt is long = absurd (omega (arith, lt))
long_is_over kind (w ∷ values) body used zero v p lt is long =
    record { before = []; at = 0; few = omega arith; stand = refl; much = long_announced kind body w p.0 p.2 (subst IsTooLong (sym is) long) }
long_is_over kind (w ∷ values) body used (suc i) v p lt is long =
    let more = long_is_over kind values (drop p.0 body) p.1 i v p.3 (omega (arith, lt)) is long in
    let place : drop more.at (drop p.0 body) ≡ drop (p.0 + more.at) body = drop-drop more.at p.0 body in
    record { before = w ∷ more.before; at = p.0 + more.at; few = omega (arith, more.few); stand = (p.0, more.at, p.2, more.stand, refl); much = subst (AnnouncesTooMuch kind) place more.much }

-- ---- what the call refuses

-- values that are there are not cut short
pub never_short : (kind : Kind) (m left at : ℕ) (body : List ℕ) (e : Refusal) → (kind ≡ Boolean → ⊥) → ((i : ℕ) → Fits w8 (get_or body i 0)) → m ≤ left → end_from kind left at body ≤ greatest_end kind body
    → (IsFault e → NothingStands (IsPlain kind m (drop at body))) → (e ≡ Truncated) ⊎ (e ≡ Limit) → e ≡ Limit
never_short kind m left at body e not below few there only (inr limit) = limit
never_short kind m left at body e not below few there only (inl short) =
    let u = there_in_turn kind m at body not below (first_within kind m left at body not few there) in
    absurd (only (subst IsFault (sym short) tt) (values_from kind m at body) u.0 (subst (λ (n : ℕ). IsPlain kind n (drop at body) (values_from kind m at body) u.0) (count_from kind m at body) (plain_turned kind _ _ _ not u.1)))

-- one of them is too long, where it is refused
pub refused_long : (kind : Kind) (m left at : ℕ) (body : List ℕ) → (kind ≡ Boolean → ⊥) → ((i : ℕ) → Fits w8 (get_or body i 0)) → m ≤ left → end_from kind left at body ≤ greatest_end kind body
    → IsReadOver kind (drop at body) m → Any IsTooLong (values_from kind m at body)
refused_long kind m left at body not below few there over =
    let u = there_in_turn kind m at body not below (first_within kind m left at body not few there) in
    over_is_long kind over.before (values_from kind m at body) (drop at body) over.at u.0 over.stand u.1 (omega (arith, over.few, count_from kind m at body)) over.much

-- and none of those that are taken
pub taken_short : (kind : Kind) (m at used : ℕ) (body : List ℕ) → InTurn (IsSpelled kind) (drop at body) (values_from kind m at body) used → (IsReadOver kind (drop at body) m → ⊥) → Any IsTooLong (values_from kind m at body) → ⊥
taken_short kind m at used body stand none any =
    none (subst (λ (n : ℕ). IsReadOver kind (drop at body) n) (count_from kind m at body) (long_is_over kind (values_from kind m at body) (drop at body) used any.0 any.1 stand any.2 any.3 any.4))

-- what holds, whatever is returned
pub when_refused : {A E : Type 0} (P : Type 0) (r : Result A E) → P → OnErr r P
when_refused P (Ok x) p = tt
when_refused P (Err e) p = p

-- what measuring the first values says
pub record Measured (kind : Kind) (m left at : ℕ) (body : List ℕ) (r : Result ℕ Refusal) : Type 0 where
  pub first : IfOk r (λ used. AreFirst kind m left at body used)
  pub short : OnOk r (Any IsTooLong (values_from kind m at body) → ⊥)
  pub long : OnErr r (Any IsTooLong (values_from kind m at body))
  pub which : IfErr r (λ e. e ≡ Limit)

pub measured : (kind : Kind) (m left at : ℕ) (body : List ℕ) → (kind ≡ Boolean → ⊥) → ((i : ℕ) → Fits w8 (get_or body i 0)) → m ≤ left → end_from kind left at body ≤ greatest_end kind body
    → (r : Result ℕ Refusal) → IfOk r (λ used. IsPlain kind m (drop at body) (values_from kind m 0 (drop at body)) used) → OnFault r (NothingStands (IsPlain kind m (drop at body)))
    → IfErr r (λ e. (e ≡ Truncated) ⊎ (e ≡ Limit)) → LimitJustWhere (IsReadOver kind (drop at body) m) r → Measured kind m left at body r
measured kind m left at body not below few there (Ok used) stands only which limit =
    let first = first_taken kind m left at body (values_from kind m 0 (drop at body)) used not below few there stands in
    record { first = first; short = taken_short kind m at used body first.stand limit; long = tt; which = tt }
measured kind m left at body not below few there (Err e) stands only which limit =
    let is = never_short kind m left at body e not below few there only which in
    record { first = tt; short = tt; long = refused_long kind m left at body not below few there (subst (IsLimitJustWhere (IsReadOver kind (drop at body) m)) is limit); which = is }
