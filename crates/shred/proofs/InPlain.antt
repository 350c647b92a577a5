-- Values that wait in PLAIN, as one comes more or others are cut off.
use Rattle.std.proofs.Common.{ℕ, zero, suc, ◌≡◌, ◌+◌, ◌-◌, ◌≤◌, List, [], ◌∷◌, ◌++◌, length, take, drop, refl, ap, sym, subst, ◌∙◌, arith, length-append, take_at, take-append-drop, length-take-le, take_all}
use Rattle.std.specs.List.{flat_map, AllByRecursion}
use Rattle.std.proofs.lemmas.List.{append-nil, flat_map_more, take-append-le}
use Rattle.std.proofs.lemmas.Grind.{flat_map-append}
use Rattle.schema.specs.declared.value.Kind.{Kind}
use Rattle.schema.specs.declared.value.Kind.TheVariants.{Boolean}
use Rattle.schema.specs.Values.{ValueTree}
use Rattle.bits.specs.Codec.{NothingStands, InTurn}
use Rattle.plain.specs.Plain.{AreBytes, HasSpelling, spelling, IsSpelled, IsPlain}
use Rattle.plain.specs.ValuesFrom.{values_from, end_from}
use Rattle.plain.proofs.Lists.{one_plain}
use Rattle.plain.proofs.Places.{count_from, end_after}
use Rattle.plain.proofs.Known.{turned_end}
use Rattle.plain.proofs.Whole.{spelled_values, spelled_in_turn, spelled_plain, spelled_bytes, bytes_fit, turned_apart, there_in_turn, values_split, end_of_first}
use Rattle.shred.specs.InPlain.{AreInPlain}

-- ---- what the bytes are

-- the spellings of the values, and where the first ones end
record Spelled (kind : Kind) (bytes : List ℕ) (count marked size : ℕ) : Type 0 where
  whole_bytes : kind ≡ Boolean → ⊥
  has : AllByRecursion (HasSpelling kind) (values_from kind count 0 bytes)
  are : bytes ≡ flat_map (spelling kind) (values_from kind count 0 bytes)
  within : marked ≤ count
  first : length (flat_map (spelling kind) (take marked (values_from kind count 0 bytes))) ≡ size

no_rest : (a b c : List ℕ) → a ≡ b ++ c → length a ≡ length b → a ≡ b
no_rest a b [] is same = is ∙ append-nil b
no_rest a b (x ∷ c) is same = absurd (omega (arith, same, ap length is, length-append b (x ∷ c)))

first_values : (kind : Kind) (m n : ℕ) (bs : List ℕ) → m ≤ n → take m (values_from kind n 0 bs) ≡ values_from kind m 0 bs
first_values kind m n bs few =
    let all : n ≡ m + (n - m) = omega (arith, few) in
    ap (λ (k : ℕ). take m (values_from kind k 0 bs)) all ∙ ap (take m) (values_split kind m (n - m) 0 bs) ∙ take_at (values_from kind m 0 bs) _ m (count_from kind m 0 bs)

-- where values end that are there
there_ends : (kind : Kind) (n : ℕ) (bs : List ℕ) → (kind ≡ Boolean → ⊥) → AreBytes bs → end_from kind n 0 bs ≤ length bs
    → AllByRecursion (HasSpelling kind) (values_from kind n 0 bs) × (rest : List ℕ) × (bs ≡ flat_map (spelling kind) (values_from kind n 0 bs) ++ rest) × (end_from kind n 0 bs ≡ length (flat_map (spelling kind) (values_from kind n 0 bs)))
there_ends kind n bs not are there =
    let vs = values_from kind n 0 bs in
    let u = there_in_turn kind n 0 bs not (bytes_fit bs are) there in
    let a = turned_apart kind vs bs u.0 u.1 in
    let ends : end_from kind n 0 bs ≡ u.0 = subst (λ (k : ℕ). end_from kind k 0 bs ≡ 0 + u.0) (count_from kind n 0 bs) (turned_end kind vs 0 u.0 bs u.1) ∙ omega arith in
    (a.0, a.1, a.2, ends ∙ a.3)

within_all : (kind : Kind) (m n : ℕ) (bs : List ℕ) → m ≤ n → end_from kind n 0 bs ≤ length bs → end_from kind m 0 bs ≤ length bs
within_all kind m n bs few there = omega (arith, there, end_of_first kind m n 0 bs few, end_after kind (n - m) (end_from kind m 0 bs) bs)

to_spelled : (kind : Kind) (bs : List ℕ) (count m n : ℕ) → AreInPlain kind bs count m n → Spelled kind bs count m n
to_spelled kind bs count m n k =
    let there : end_from kind count 0 bs ≤ length bs = omega (arith, k.filled) in
    let a = there_ends kind count bs k.whole_bytes k.are_bytes there in
    let b = there_ends kind m bs k.whole_bytes k.are_bytes (within_all kind m count bs k.within there) in
    record {
      whole_bytes = k.whole_bytes;
      has = a.0;
      are = no_rest bs (flat_map (spelling kind) (values_from kind count 0 bs)) a.1 a.2 (sym k.filled ∙ a.3);
      within = k.within;
      first = ap (λ (ws : List ValueTree). length (flat_map (spelling kind) ws)) (first_values kind m count bs k.within) ∙ sym b.3 ∙ k.first;
    }

from_spelled : (kind : Kind) (bs : List ℕ) (count m n : ℕ) → Spelled kind bs count m n → AreInPlain kind bs count m n
from_spelled kind bs count m n k =
    let vs = values_from kind count 0 bs in
    let are : AreBytes bs = subst AreBytes (sym k.are) (spelled_bytes kind vs k.has) in
    let stand : InTurn (IsSpelled kind) bs vs (length bs) = subst (λ (t : List ℕ). InTurn (IsSpelled kind) t vs (length t)) (sym k.are) (spelled_in_turn kind vs k.has) in
    let filled : end_from kind count 0 bs ≡ length bs = subst (λ (c : ℕ). end_from kind c 0 bs ≡ 0 + length bs) (count_from kind count 0 bs) (turned_end kind vs 0 (length bs) bs stand) ∙ omega arith in
    let b = there_ends kind m bs k.whole_bytes are (within_all kind m count bs k.within (omega (arith, filled))) in
    record {
      whole_bytes = k.whole_bytes;
      are_bytes = are;
      filled = filled;
      within = k.within;
      first = b.3 ∙ ap (λ (ws : List ValueTree). length (flat_map (spelling kind) ws)) (sym (first_values kind m count bs k.within)) ∙ k.first;
    }

-- no values
pub none_in_plain : (kind : Kind) → (kind ≡ Boolean → ⊥) → AreInPlain kind [] 0 0 0
none_in_plain kind not = from_spelled kind [] 0 0 0 (record { whole_bytes = not; has = tt; are = refl; within = omega arith; first = refl })

all_push : (P : ValueTree → Type 0) (vs : List ValueTree) (v : ValueTree) → AllByRecursion P vs → P v → AllByRecursion P (vs ++ v ∷ [])
all_push P [] v all p = (p, tt)
all_push P (w ∷ vs) v all p = (all.0, all_push P vs v all.1 p)

all_take : (P : ValueTree → Type 0) (n : ℕ) (vs : List ValueTree) → AllByRecursion P vs → AllByRecursion P (take n vs)
all_take P zero vs all = tt
all_take P (suc n) [] all = tt
all_take P (suc n) (v ∷ vs) all = (all.0, all_take P n vs all.1)

-- ---- one value more

value_put : (kind : Kind) (bs new : List ℕ) (count m n : ℕ) (v : ValueTree) → Spelled kind bs count m n → HasSpelling kind v → new ≡ bs ++ spelling kind v → values_from kind (count + 1) 0 new ≡ values_from kind count 0 bs ++ v ∷ []
value_put kind bs new count m n v k has joined =
    let vs = values_from kind count 0 bs in
    let whole = vs ++ v ∷ [] in
    let text : new ≡ flat_map (spelling kind) whole = joined ∙ ap (λ (t : List ℕ). t ++ spelling kind v) k.are ∙ flat_map_more (spelling kind) [] vs v in
    let size : length whole ≡ count + 1 = omega (arith, length-append vs (v ∷ []), count_from kind count 0 bs) in
    ap (λ (c : ℕ). values_from kind c 0 new) (sym size) ∙ ap (λ (t : List ℕ). values_from kind (length whole) 0 t) text ∙ spelled_values kind whole (all_push (HasSpelling kind) vs v k.has has)

still_first : (kind : Kind) (bs new : List ℕ) (count m n : ℕ) (v : ValueTree) → Spelled kind bs count m n → HasSpelling kind v → new ≡ bs ++ spelling kind v
    → take m (values_from kind (count + 1) 0 new) ≡ take m (values_from kind count 0 bs)
still_first kind bs new count m n v k has joined =
    ap (take m) (value_put kind bs new count m n v k has joined) ∙ take-append-le m (values_from kind count 0 bs) (v ∷ []) (omega (arith, k.within, count_from kind count 0 bs))

still_in_plain : (kind : Kind) (bs new : List ℕ) (count m n : ℕ) (v : ValueTree) → Spelled kind bs count m n → HasSpelling kind v → new ≡ bs ++ spelling kind v → Spelled kind new (count + 1) m n
still_in_plain kind bs new count m n v k has joined =
    let vs = values_from kind count 0 bs in
    let is = value_put kind bs new count m n v k has joined in
    record {
      whole_bytes = k.whole_bytes;
      has = subst (AllByRecursion (HasSpelling kind)) (sym is) (all_push (HasSpelling kind) vs v k.has has);
      are = joined ∙ ap (λ (t : List ℕ). t ++ spelling kind v) k.are ∙ flat_map_more (spelling kind) [] vs v ∙ ap (flat_map (spelling kind)) (sym is);
      within = omega (arith, k.within);
      first = ap (λ (ws : List ValueTree). length (flat_map (spelling kind) ws)) (still_first kind bs new count m n v k has joined) ∙ k.first;
    }

-- ---- more values

all_more : (P : ValueTree → Type 0) (vs ws : List ValueTree) → AllByRecursion P vs → AllByRecursion P ws → AllByRecursion P (vs ++ ws)
all_more P [] ws all more = more
all_more P (v ∷ vs) ws all more = (all.0, all_more P vs ws all.1 more)

more_bytes : (kind : Kind) (bs cs new : List ℕ) (count more m n i j : ℕ) → Spelled kind bs count m n → Spelled kind cs more i j → new ≡ bs ++ cs
    → new ≡ flat_map (spelling kind) (values_from kind count 0 bs ++ values_from kind more 0 cs)
more_bytes kind bs cs new count more m n i j k l joined =
    let vs = values_from kind count 0 bs in
    joined ∙ ap (λ (t : List ℕ). t ++ cs) k.are ∙ ap (λ (t : List ℕ). flat_map (spelling kind) vs ++ t) l.are ∙ sym (flat_map-append (spelling kind) vs (values_from kind more 0 cs))

values_taken : (kind : Kind) (bs cs new : List ℕ) (count more m n i j : ℕ) → Spelled kind bs count m n → Spelled kind cs more i j → new ≡ bs ++ cs
    → values_from kind (count + more) 0 new ≡ values_from kind count 0 bs ++ values_from kind more 0 cs
values_taken kind bs cs new count more m n i j k l joined =
    let vs = values_from kind count 0 bs in
    let ws = values_from kind more 0 cs in
    let size : length (vs ++ ws) ≡ count + more = omega (arith, length-append vs ws, count_from kind count 0 bs, count_from kind more 0 cs) in
    ap (λ (c : ℕ). values_from kind c 0 new) (sym size) ∙ ap (λ (t : List ℕ). values_from kind (length (vs ++ ws)) 0 t) (more_bytes kind bs cs new count more m n i j k l joined)
    ∙ spelled_values kind (vs ++ ws) (all_more (HasSpelling kind) vs ws k.has l.has)

still_first_taken : (kind : Kind) (bs cs new : List ℕ) (count more m n i j : ℕ) → Spelled kind bs count m n → Spelled kind cs more i j → new ≡ bs ++ cs
    → take m (values_from kind (count + more) 0 new) ≡ take m (values_from kind count 0 bs)
still_first_taken kind bs cs new count more m n i j k l joined =
    ap (take m) (values_taken kind bs cs new count more m n i j k l joined)
    ∙ take-append-le m (values_from kind count 0 bs) (values_from kind more 0 cs) (omega (arith, k.within, count_from kind count 0 bs))

still_in_plain_taken : (kind : Kind) (bs cs new : List ℕ) (count more m n i j : ℕ) → Spelled kind bs count m n → Spelled kind cs more i j → new ≡ bs ++ cs → Spelled kind new (count + more) m n
still_in_plain_taken kind bs cs new count more m n i j k l joined =
    let vs = values_from kind count 0 bs in
    let ws = values_from kind more 0 cs in
    let is = values_taken kind bs cs new count more m n i j k l joined in
    record {
      whole_bytes = k.whole_bytes;
      has = subst (AllByRecursion (HasSpelling kind)) (sym is) (all_more (HasSpelling kind) vs ws k.has l.has);
      are = more_bytes kind bs cs new count more m n i j k l joined ∙ ap (flat_map (spelling kind)) (sym is);
      within = omega (arith, k.within);
      first = ap (λ (us : List ValueTree). length (flat_map (spelling kind) us)) (still_first_taken kind bs cs new count more m n i j k l joined) ∙ k.first;
    }

-- ---- values that are marked

pub all_first : (kind : Kind) (bs : List ℕ) (count : ℕ) → take count (values_from kind count 0 bs) ≡ values_from kind count 0 bs
all_first kind bs count = take_all count (values_from kind count 0 bs) (omega (arith, count_from kind count 0 bs))

all_marked_in_plain : (kind : Kind) (bs : List ℕ) (count m n : ℕ) → Spelled kind bs count m n → Spelled kind bs count count (length bs)
all_marked_in_plain kind bs count m n k = record {
  whole_bytes = k.whole_bytes;
  has = k.has;
  are = k.are;
  within = omega arith;
  first = ap (λ (ws : List ValueTree). length (flat_map (spelling kind) ws)) (all_first kind bs count) ∙ ap length (sym k.are);
}

-- the others are cut off
cut_bytes : (kind : Kind) (bs : List ℕ) (count m n : ℕ) → Spelled kind bs count m n → take n bs ≡ flat_map (spelling kind) (take m (values_from kind count 0 bs))
cut_bytes kind bs count m n k =
    let vs = values_from kind count 0 bs in
    let split : bs ≡ flat_map (spelling kind) (take m vs) ++ flat_map (spelling kind) (drop m vs) =
    k.are ∙ ap (flat_map (spelling kind)) (sym (take-append-drop m vs)) ∙ flat_map-append (spelling kind) (take m vs) (drop m vs) in
    ap (take n) split ∙ take_at (flat_map (spelling kind) (take m vs)) (flat_map (spelling kind) (drop m vs)) n k.first

values_cut : (kind : Kind) (bs : List ℕ) (count m n : ℕ) → Spelled kind bs count m n → values_from kind m 0 (take n bs) ≡ take m (values_from kind count 0 bs)
values_cut kind bs count m n k =
    let ws = take m (values_from kind count 0 bs) in
    let size : length ws ≡ m = length-take-le m (values_from kind count 0 bs) (omega (arith, k.within, count_from kind count 0 bs)) in
    ap (λ (t : List ℕ). values_from kind m 0 t) (cut_bytes kind bs count m n k)
    ∙ ap (λ (c : ℕ). values_from kind c 0 (flat_map (spelling kind) ws)) (sym size)
    ∙ spelled_values kind ws (all_take (HasSpelling kind) m (values_from kind count 0 bs) k.has)

cut_in_plain : (kind : Kind) (bs : List ℕ) (count m n : ℕ) → Spelled kind bs count m n → Spelled kind (take n bs) m m n
cut_in_plain kind bs count m n k =
    let vs = values_from kind count 0 bs in
    let is = values_cut kind bs count m n k in
    record {
      whole_bytes = k.whole_bytes;
      has = subst (AllByRecursion (HasSpelling kind)) (sym is) (all_take (HasSpelling kind) m vs k.has);
      are = cut_bytes kind bs count m n k ∙ ap (flat_map (spelling kind)) (sym is);
      within = omega arith;
      first = ap (λ (ws : List ValueTree). length (flat_map (spelling kind) ws)) (all_first kind (take n bs) m ∙ is) ∙ k.first;
    }

-- ---- values that are there to be taken

in_plain : (kind : Kind) (bs : List ℕ) (count m n : ℕ) → Spelled kind bs count m n → IsPlain kind count bs (values_from kind count 0 bs) (length bs)
in_plain kind bs count m n k =
    let vs = values_from kind count 0 bs in
    let p = spelled_plain kind vs k.whole_bytes k.has in
    subst (λ (c : ℕ). IsPlain kind c bs vs (length bs)) (count_from kind count 0 bs) (subst (λ (t : List ℕ). IsPlain kind (length vs) t vs (length t)) (sym k.are) p)

something_stands : (kind : Kind) (bs : List ℕ) (count m n : ℕ) → Spelled kind bs count m n → NothingStands (IsPlain kind count bs) → ⊥
something_stands kind bs count m n k nothing = nothing (values_from kind count 0 bs) (length bs) (in_plain kind bs count m n k)

-- ---- of values that wait

pub put_in_plain : (kind : Kind) (bs new : List ℕ) (count m n : ℕ) (v : ValueTree) → AreInPlain kind bs count m n → HasSpelling kind v → new ≡ bs ++ spelling kind v
    → AreInPlain kind new (count + 1) m n × (values_from kind (count + 1) 0 new ≡ values_from kind count 0 bs ++ v ∷ []) × (take m (values_from kind (count + 1) 0 new) ≡ take m (values_from kind count 0 bs))
put_in_plain kind bs new count m n v k has joined =
    let s = to_spelled kind bs count m n k in
    (from_spelled kind new (count + 1) m n (still_in_plain kind bs new count m n v s has joined), value_put kind bs new count m n v s has joined, still_first kind bs new count m n v s has joined)

pub taken_in_plain : (kind other : Kind) (bs cs new : List ℕ) (count more m n i j : ℕ) → other ≡ kind → AreInPlain kind bs count m n → AreInPlain other cs more i j → new ≡ bs ++ cs
    → AreInPlain kind new (count + more) m n × (values_from kind (count + more) 0 new ≡ values_from kind count 0 bs ++ values_from other more 0 cs)
    × (take m (values_from kind (count + more) 0 new) ≡ take m (values_from kind count 0 bs))
taken_in_plain kind other bs cs new count more m n i j same k l joined =
    let s = to_spelled kind bs count m n k in
    let t = to_spelled kind cs more i j (subst (λ (x : Kind). AreInPlain x cs more i j) same l) in (
      from_spelled kind new (count + more) m n (still_in_plain_taken kind bs cs new count more m n i j s t joined),
      values_taken kind bs cs new count more m n i j s t joined ∙ ap (λ (x : Kind). values_from kind count 0 bs ++ values_from x more 0 cs) (sym same),
      still_first_taken kind bs cs new count more m n i j s t joined,
    )

pub marked_in_plain : (kind : Kind) (bs : List ℕ) (count m n : ℕ) → AreInPlain kind bs count m n → AreInPlain kind bs count count (length bs)
marked_in_plain kind bs count m n k = from_spelled kind bs count count (length bs) (all_marked_in_plain kind bs count m n (to_spelled kind bs count m n k))

pub left_in_plain : (kind : Kind) (bs : List ℕ) (count m n : ℕ) → AreInPlain kind bs count m n → AreInPlain kind (take n bs) m m n × (values_from kind m 0 (take n bs) ≡ take m (values_from kind count 0 bs))
left_in_plain kind bs count m n k =
    let s = to_spelled kind bs count m n k in
    (from_spelled kind (take n bs) m m n (cut_in_plain kind bs count m n s), values_cut kind bs count m n s)

pub in_plain_stand : (kind : Kind) (bs : List ℕ) (count m n : ℕ) → AreInPlain kind bs count m n → NothingStands (IsPlain kind count bs) → ⊥
in_plain_stand kind bs count m n k = something_stands kind bs count m n (to_spelled kind bs count m n k)

-- the cursor over them has these values left
pub in_plain_left : (kind : Kind) (bs : List ℕ) (count m n used : ℕ) (vs : List ValueTree) → AreInPlain kind bs count m n → IsPlain kind count bs vs used → vs ≡ values_from kind count 0 bs
in_plain_left kind bs count m n used vs k p =
    (one_plain kind count bs vs (values_from kind count 0 bs) used (length bs) p (in_plain kind bs count m n (to_spelled kind bs count m n k))).0
