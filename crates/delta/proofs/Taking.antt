-- What reading miniblocks gives.
use Rattle.std.proofs.Common.{◌≡◌, ℕ, zero, suc, ◌+◌, ◌-◌, ◌*◌, ◌/◌, ◌%◌, ◌<◌, ◌≤◌, min, List, [], ◌∷◌, ◌++◌, length, get_or, take, drop, replicate, refl, sym, ap, subst, ◌∙◌, arith, inl, inr, append_assoc}
use Rattle.std.specs.Prelude.{ℤ, pos, ◌+ℤ◌, slice_range, slice_index}
use Rattle.std.specs.Int.{Width}
use Rattle.std.proofs.lemmas.List.{take_all, length-append, length-drop, length-take-le, append-nil, map-append, drop-drop, drop_more, take-map, drop_all}
use Rattle.std.proofs.Math.Nat.{mul-le-mul_right}
use Rattle.std.proofs.lemmas.Bool.{cases_lt}
use Rattle.lists.proofs.Slices.{take_joined as take_both}
use Rattle.bits.specs.Bits.{bits, number, IsPacked}
use Rattle.bits.specs.Codec.{NothingStands}
use Rattle.bits.specs.Varint.{IsUleb, zigzag_of}
use Rattle.bits.proofs.Facts.{one_packing, one_uleb}
use Rattle.bits.proofs.Loops.{Continues}
use Rattle.bits.proofs.Loops as loops
use Rattle.delta.specs.Delta.{IsMiniblock, AreMiniblocks, IsBlock}
use Rattle.delta.specs.inner.Taken.{Adds, deltas_of, AreTaken, IsTaken}
use Rattle.delta.proofs.Packed.{unpacked, length-unpacked, unpacked_is, packed_take}
use Rattle.delta.proofs.One.{one_miniblock}
use Rattle.delta.proofs.Sums.{adds_nothing, adds_both}

-- the bytes of a miniblock
pub room_of : (size width used : ℕ) → size % 32 ≡ 0 → used ≡ size / 8 * width → 8 * used ≡ size * width
room_of size width used whole is =
    let eight : 8 * (size / 8) ≡ size = omega arith in
    let e : 8 * (size / 8 * width) ≡ (8 * (size / 8)) * width = omega arith in
    ap (λ (k : ℕ). 8 * k) is ∙ e ∙ ap (λ (k : ℕ). k * width) eight

pub miniblock_taken : (w : Width) (least : ℤ) (size width left used : ℕ) (bytes numbers : List ℕ) (old new : List ℤ) → size % 32 ≡ 0 → width ≤ 64 → used ≡ size / 8 * width → used ≤ length bytes
    → length numbers ≡ min left size → IsPacked bytes width numbers → Adds w (deltas_of least numbers) old new → AreTaken (IsMiniblock size width bytes) w least left old new used
miniblock_taken w least size width left used bytes numbers old new whole wide is within count packed added =
    let room = room_of size width used whole is in
    let all = unpacked width size bytes in
    let len : length all ≡ size = length-unpacked width size bytes in
    let there : IsPacked bytes width all = unpacked_is width size bytes (omega (arith, room)) in
    let few : min left size ≤ length all = omega (arith, len) in
    let short : length (take (min left size) all) ≡ min left size = length-take-le (min left size) all few in
    let here : numbers ≡ take (min left size) all = one_packing bytes numbers (take (min left size) all) width (count ∙ sym short) packed (packed_take bytes width (min left size) all few there) in
    let first : take (min left size) all ≡ take left all = elim (cases_lt size left) [
      | inl lt ↦ let m : min left size ≡ size = omega arith in ap (λ (k : ℕ). take k all) m ∙ take_all size all (omega (arith, len)) ∙ sym (take_all left all (omega (arith, len)))
      | inr le ↦ let m : min left size ≡ left = omega arith in ap (λ (k : ℕ). take k all) m
    ] in
    record {
      numbers = all;
      stand = record { wide = wide; count = len; packed = there; ends = room };
      added = subst (λ (xs : List ℕ). Adds w (deltas_of least xs) old new) (here ∙ first) added;
    }

zero_at : (n i : ℕ) → slice_index (replicate n 0) i ≡ 0
zero_at zero i = refl
zero_at (suc n) zero = refl
zero_at (suc n) (suc i) = zero_at n i

-- numbers of no bits are 0
pub zeros_packed : (bytes : List ℕ) (width n : ℕ) → width ≡ 0 → IsPacked bytes width (replicate n 0)
zeros_packed bytes width n none = subst (λ (w : ℕ). IsPacked bytes w (replicate n 0)) (sym none) (record {
  within = omega arith;
  each = λ i lt. zero_at n i ∙ ap (λ (k : ℕ). number (slice_range (bits bytes) k k)) (let e : zero ≡ i * 0 = omega arith in e) ∙ ap (λ (k : ℕ). number (slice_range (bits bytes) (i * 0) k)) (let e : i * 0 ≡ (i + 1) * 0 = omega arith in e);
})

pub too_short : (size width used : ℕ) (bytes : List ℕ) → size % 32 ≡ 0 → used ≡ size / 8 * width → length bytes < used → NothingStands (IsMiniblock size width bytes)
too_short size width used bytes whole is lt numbers taken p =
    let room = room_of size width used whole is in
    let inside = p.packed.within in
    let same : length numbers * width ≡ size * width = ap (λ (k : ℕ). k * width) p.count in
    omega (arith, room, inside, same)

-- the numbers of a miniblock are all there
pub all_there : (size width left used : ℕ) (bytes : List ℕ) → size % 32 ≡ 0 → used ≡ size / 8 * width → used ≤ length bytes → min left size * width ≤ 8 * length bytes
all_there size width left used bytes whole is within =
    let room = room_of size width used whole is in
    let few : min left size * width ≤ size * width = mul-le-mul_right width (let m : min left size ≤ size = omega arith in m) in
    omega (arith, room, few)

pub miniblock_within : (size width used : ℕ) (bytes numbers : List ℕ) → IsMiniblock size width bytes numbers used → used ≤ length bytes
miniblock_within size width used bytes numbers p =
    let same : length numbers * width ≡ size * width = ap (λ (k : ℕ). k * width) p.count in
    omega (arith, p.packed.within, same, p.ends)

-- ---- several miniblocks

-- the miniblocks of the first i widths are read, up to `at`
pub record IsReading (w : Width) (least : ℤ) (size : ℕ) (widths bytes : List ℕ) (left : ℕ) (old new : List ℤ) (at rest i : ℕ) : Type 0 where
  pub front : List ℕ
  pub so_far : Continues (λ (tail : List ℕ) (v : ℕ). AreMiniblocks size (drop i widths) (drop at bytes) tail v) (AreMiniblocks size widths bytes) (λ (tail : List ℕ). front ++ tail) at
  pub added : Adds w (deltas_of least (take left front)) old new
  pub more : rest ≡ left - length front
  pub within : at ≤ length bytes

pub reading_begins : (w : Width) (least : ℤ) (size : ℕ) (widths bytes : List ℕ) (left : ℕ) (old : List ℤ) → IsReading w least size widths bytes left old old 0 left 0
reading_begins w least size widths bytes left old = record {
  front = [];
  so_far = loops.begins (AreMiniblocks size widths bytes);
  added = subst (λ (xs : List ℕ). Adds w (deltas_of least xs) old old) (sym (take_all left [] (omega arith))) (adds_nothing w old);
  more = omega arith;
  within = omega arith;
}

step : (size width : ℕ) (others bytes here : List ℕ) (at u : ℕ) → IsMiniblock size width (drop at bytes) here u
    → Continues (λ (tail : List ℕ) (v : ℕ). AreMiniblocks size others (drop (at + u) bytes) tail v) (λ (tail : List ℕ) (v : ℕ). AreMiniblocks size (width ∷ others) (drop at bytes) tail v) (λ (tail : List ℕ). here ++ tail) u
step size width others bytes here at u is = record {
  forward = λ tail v p. (here, tail, u, v, is, subst (λ (b : List ℕ). AreMiniblocks size others b tail v) (sym (drop-drop u at bytes)) p, refl, refl);
  backward = λ whole v p. back whole v p;
}
  where
    back : (whole : List ℕ) (v : ℕ) → AreMiniblocks size (width ∷ others) (drop at bytes) whole v
        → (tail : List ℕ) × ((rest : ℕ) × AreMiniblocks size others (drop (at + u) bytes) tail rest × (whole ≡ here ++ tail) × (v ≡ u + rest))
    back whole v (front, tail, k, rest, there, behind, whole_is, v_is) =
        let o = one_miniblock size width (drop at bytes) front here k u there is in
        (tail, (rest, subst (λ (b : List ℕ). AreMiniblocks size others b tail rest) (ap (λ (n : ℕ). drop n (drop at bytes)) o.1 ∙ drop-drop u at bytes) behind, whole_is ∙ ap (λ (t : List ℕ). t ++ tail) o.0, omega (arith, v_is, o.1)))

pub reading_goes_on : (w : Width) (least : ℤ) (size left at rest i u : ℕ) (widths bytes : List ℕ) (old mid new : List ℤ) → i < length widths
    → AreTaken (IsMiniblock size (get_or widths i 0) (drop at bytes)) w least rest mid new u → IsReading w least size widths bytes left old mid at rest i → IsReading w least size widths bytes left old new (at + u) (rest - size) (i + 1)
reading_goes_on w least size left at rest i u widths bytes old mid new more taken p =
    let width = get_or widths i 0 in
    let here = taken.numbers in
    let parts : drop i widths ≡ width ∷ drop (i + 1) widths = drop_more widths i 0 more in
    let Rest = λ (tail : List ℕ) (v : ℕ). AreMiniblocks size (width ∷ drop (i + 1) widths) (drop at bytes) tail v in
    let After = λ (tail : List ℕ) (v : ℕ). AreMiniblocks size (drop (i + 1) widths) (drop (at + u) bytes) tail v in
    let so_far = subst (λ (ws : List ℕ). Continues (λ (tail : List ℕ) (v : ℕ). AreMiniblocks size ws (drop at bytes) tail v) (AreMiniblocks size widths bytes) (λ (tail : List ℕ). p.front ++ tail) at) parts p.so_far in
    let c = loops.goes_on Rest After (AreMiniblocks size widths bytes) (λ (tail : List ℕ). p.front ++ tail) (λ (tail : List ℕ). here ++ tail) at u so_far (step size width (drop (i + 1) widths) bytes here at u taken.stand) in
    let inside = miniblock_within size width u (drop at bytes) here taken.stand in
    let first : take left (p.front ++ here) ≡ take left p.front ++ take rest here = take_both left p.front here ∙ ap (λ (k : ℕ). take left p.front ++ take k here) (sym p.more) in
    record {
      front = p.front ++ here;
      so_far = record {
        forward = λ tail v q. subst (λ (xs : List ℕ). AreMiniblocks size widths bytes xs (at + u + v)) (sym (append_assoc p.front here tail)) (c.forward tail v q);
        backward = λ whole v q. let b = c.backward whole v q in (b.0, (b.1.0, b.1.1, b.1.2 ∙ sym (append_assoc p.front here b.0), b.1.3));
      };
      added = subst (λ (ds : List ℤ). Adds w ds old new) (sym (map-append (λ x. least +ℤ pos x) (take left p.front) (take rest here)) ∙ ap (deltas_of least) (sym first))
          (adds_both w (deltas_of least (take left p.front)) (deltas_of least (take rest here)) old mid new p.added taken.added);
      more = omega (arith, p.more, taken.stand.count, length-append p.front here);
      within = omega (arith, inside, length-drop at bytes, p.within);
    }

pub reading_fails : (w : Width) (least : ℤ) (size left at rest i : ℕ) (widths bytes : List ℕ) (old mid : List ℤ) → i < length widths
    → NothingStands (IsMiniblock size (get_or widths i 0) (drop at bytes)) → IsReading w least size widths bytes left old mid at rest i → NothingStands (AreMiniblocks size widths bytes)
reading_fails w least size left at rest i widths bytes old mid more none p =
    let width = get_or widths i 0 in
    let parts : drop i widths ≡ width ∷ drop (i + 1) widths = drop_more widths i 0 more in
    let nothing : NothingStands (AreMiniblocks size (width ∷ drop (i + 1) widths) (drop at bytes)) = λ numbers used q. none q.0 q.2 q.4 in
    loops.none (λ (tail : List ℕ) (v : ℕ). AreMiniblocks size (drop i widths) (drop at bytes) tail v) (AreMiniblocks size widths bytes) (λ (tail : List ℕ). p.front ++ tail) at p.so_far
    (subst (λ (ws : List ℕ). NothingStands (AreMiniblocks size ws (drop at bytes))) (sym parts) nothing)

pub reading_ends : (w : Width) (least : ℤ) (size left at rest i : ℕ) (widths bytes : List ℕ) (old mid : List ℤ) → length widths ≤ i
    → IsReading w least size widths bytes left old mid at rest i → AreTaken (AreMiniblocks size widths bytes) w least left old mid at
reading_ends w least size left at rest i widths bytes old mid all p =
    let none : drop i widths ≡ [] = drop_all i widths all in
    let so_far = subst (λ (ws : List ℕ). Continues (λ (tail : List ℕ) (v : ℕ). AreMiniblocks size ws (drop at bytes) tail v) (AreMiniblocks size widths bytes) (λ (tail : List ℕ). p.front ++ tail) at) none p.so_far in
    record {
      numbers = p.front;
      stand = subst (λ (xs : List ℕ). AreMiniblocks size widths bytes xs at) (append-nil p.front) (loops.ends (λ (tail : List ℕ) (v : ℕ). AreMiniblocks size [] (drop at bytes) tail v) (AreMiniblocks size widths bytes) (λ (tail : List ℕ). p.front ++ tail) at [] so_far (refl, refl));
      added = p.added;
    }

-- ---- a block

pub block_taken : (w : Width) (least : ℤ) (m s k left at number used : ℕ) (bytes widths body : List ℕ) (old new : List ℤ) → IsUleb bytes number at → zigzag_of least ≡ number → at + m ≤ length bytes
    → widths ≡ take k (take m (drop at bytes)) → body ≡ drop (at + m) bytes → AreTaken (AreMiniblocks s widths body) w least left old new used → IsTaken (IsBlock m s k bytes) w left old new (at + m + used)
block_taken w least m s k left at number used bytes widths body old new says is room widths_are body_is taken = record {
  deltas = deltas_of least taken.numbers;
  stand = record {
    least = least;
    at = at;
    numbers = taken.numbers;
    body = used;
    says = subst (λ (n : ℕ). IsUleb bytes n at) (sym is) says;
    widths = room;
    packed = subst (λ (ws : List ℕ). AreMiniblocks s ws (drop (at + m) bytes) taken.numbers used) widths_are (subst (λ (b : List ℕ). AreMiniblocks s widths b taken.numbers used) body_is taken.stand);
    stands_for = refl;
    ends = refl;
  };
  added = subst (λ (ds : List ℤ). Adds w ds old new) (sym (take-map (λ x. least +ℤ pos x) left taken.numbers)) taken.added;
}

-- no varint, too few width bytes, or no miniblocks
pub no_block : (m s k at number : ℕ) (bytes widths body : List ℕ) → IsUleb bytes number at → widths ≡ take k (take m (drop at bytes)) → body ≡ drop (at + m) bytes
    → NothingStands (AreMiniblocks s widths body) → NothingStands (IsBlock m s k bytes)
no_block m s k at number bytes widths body says widths_are body_is none deltas used p =
    let here = (one_uleb bytes (zigzag_of p.least) number p.at at p.says says).1 in
    let there : AreMiniblocks s (take k (take m (drop at bytes))) (drop (at + m) bytes) p.numbers p.body = subst (λ (n : ℕ). AreMiniblocks s (take k (take m (drop n bytes))) (drop (n + m) bytes) p.numbers p.body) here p.packed in
    none p.numbers p.body (subst (λ (b : List ℕ). AreMiniblocks s widths b p.numbers p.body) (sym body_is) (subst (λ (ws : List ℕ). AreMiniblocks s ws (drop (at + m) bytes) p.numbers p.body) (sym widths_are) there))

pub no_widths : (m s k at number : ℕ) (bytes : List ℕ) → IsUleb bytes number at → length (drop at bytes) < m → NothingStands (IsBlock m s k bytes)
no_widths m s k at number bytes says few deltas used p =
    let here = (one_uleb bytes (zigzag_of p.least) number p.at at p.says says).1 in
    omega (arith, p.widths, here, length-drop at bytes, says.within)
