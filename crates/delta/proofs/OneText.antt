-- A writer writes one text for the same values.
use Rattle.std.proofs.Common.{take-add, ◌≡◌, ◌⊎◌, replicate, ℕ, zero, suc, ◌+◌, ◌-◌, ◌*◌, ◌/◌, ◌%◌, ◌^◌, ◌<◌, ◌≤◌, List, [], ◌∷◌, ◌++◌, length, get_or, map, take, drop, refl, sym, ap, subst, ◌∙◌, arith, inl, inr}
use Rattle.std.specs.Prelude.{ℤ, pos, ◌+ℤ◌, ◌≤ℤ◌, slice_index}
use Rattle.std.specs.Int.{Width}
use Rattle.std.proofs.lemmas.Bool.{cases_lt}
use Rattle.std.proofs.lemmas.Int.{ints}
use Rattle.std.proofs.lemmas.List.{take_all, length-drop, length-take-le, take_at, drop_at, take-append-drop, get_or-take, get_or-drop, get_or_past}
use Rattle.std.proofs.lemmas.List.Elements.{All-drop, All-take, All-get_or, All-contains}
use Rattle.std.proofs.lemmas.Grind.{same_number_lists}
use Rattle.std.proofs.Math.Nat.{add-mul, mul-le-mul_right}
use Rattle.bits.proofs.Sevens.{powers_of_128 as sevens}
use Rattle.lists.proofs.Lists.{same_number_and_rest as cons_same}
use Rattle.bits.specs.Bits.{bits, number, IsPacked}
use Rattle.bits.specs.Codec.{InTurn}
use Rattle.bits.specs.Varint.{groups, IsShortestUleb, zigzag_of}
use Rattle.bits.proofs.BitLists.{length-bits, bits_below, bits-append}
use Rattle.bits.proofs.Varints.{groups_below, pow_le}
use Rattle.plain.specs.Plain.{AreBytes}
use Rattle.delta.specs.Delta.{IsMiniblock, AreMiniblocks}
use Rattle.delta.specs.Written.{blocks_of, IsLeast, IsLeastWidth, IsWrittenBlock, IsWrittenDelta}

-- the first bytes are the same
record SameFront (a b : List ℕ) (u v : ℕ) : Type 0 where
  pub size : u ≡ v
  pub front : take u a ≡ take v b

nothing : (a b : List ℕ) (u v : ℕ) → u ≡ 0 → v ≡ 0 → SameFront a b u v
nothing a b u v p q = record { size = p ∙ sym q; front = ap (λ (k : ℕ). take k a) p ∙ sym (ap (λ (k : ℕ). take k b) q) }

both : (a b : List ℕ) (u v m n : ℕ) → SameFront a b u v → SameFront (drop u a) (drop v b) m n → SameFront a b (u + m) (v + n)
both a b u v m n p q = record {
  size = omega (arith, p.size, q.size);
  front = take-add u m a ∙ ap (λ (t : List ℕ). t ++ take m (drop u a)) p.front ∙ ap (λ (t : List ℕ). take v b ++ t) q.front ∙ sym (take-add v n b);
}

rest_bytes : (n : ℕ) (a : List ℕ) → AreBytes a → AreBytes (drop n a)
rest_bytes n a all = All-drop (λ x. x < 256) n a all

in_turn : {Y : Type 0} (Each : List ℕ → Y → ℕ → Type 0) → ((a b : List ℕ) (y : Y) (u v : ℕ) → AreBytes a → AreBytes b → Each a y u → Each b y v → SameFront a b u v)
    → (ys : List Y) (a b : List ℕ) (u v : ℕ) → AreBytes a → AreBytes b → InTurn Each a ys u → InTurn Each b ys v → SameFront a b u v
in_turn Each law [] a b u v la lb p q = nothing a b u v p q
in_turn Each law (y ∷ ys) a b u v la lb (i, j, is, more, u_is) (k, l, has, others, v_is) =
    let here = law a b y i k la lb is has in
    let rest = in_turn Each law ys (drop i a) (drop k b) j l (rest_bytes i a la) (rest_bytes k b lb) more others in
    subst (λ (n : ℕ). SameFront a b n v) (sym u_is) (subst (λ (n : ℕ). SameFront a b (i + j) n) (sym v_is) (both a b i k j l here rest))

-- ---- varints

no_longer : (a b : List ℕ) (n u v : ℕ) → IsShortestUleb a n u → IsShortestUleb b n v → v ≤ u
no_longer a b n u v p q = elim (cases_lt u v) [
  | inl lt ↦ absurd (by q.shortest lt)
  | inr le ↦ le
]
  where
    by : (v ≡ 1) ⊎ (128 ^ (v - 1) ≤ n) → u < v → ⊥
    by (inl one) lt = omega (arith, one, lt, p.spelled.begins)
    by (inr large) lt =
        let below : groups (take u a) < 2 ^ (7 * u) = groups_below a u p.spelled.within in
        let le : 2 ^ (7 * u) ≤ 2 ^ (7 * (v - 1)) = pow_le (7 * u) (7 * (v - 1)) (omega (arith, lt)) in
        omega (arith, below, le, large, p.spelled.number, sevens (v - 1))

groups_same : (xs ys : List ℕ) → length xs ≡ length ys → groups xs ≡ groups ys → (k : ℕ) → get_or xs k 0 % 128 ≡ get_or ys k 0 % 128
groups_same [] [] s e k = refl
groups_same [] (y ∷ ys) s e k = absurd (omega (arith, s))
groups_same (x ∷ xs) [] s e k = absurd (omega (arith, s))
groups_same (x ∷ xs) (y ∷ ys) s e zero = omega (arith, e)
groups_same (x ∷ xs) (y ∷ ys) s e (suc k) = groups_same xs ys (omega (arith, s)) (omega (arith, e)) k

same_uleb : (a b : List ℕ) (n u v : ℕ) → AreBytes a → AreBytes b → IsShortestUleb a n u → IsShortestUleb b n v → SameFront a b u v
same_uleb a b n u v la lb p q = record { size = same; front = same_number_lists (take u a) (take v b) lengths each }
  where
    same : u ≡ v
    same = let le = no_longer a b n u v p q in let ge = no_longer b a n v u q p in omega (arith, le, ge)

    lengths : length (take u a) ≡ length (take v b)
    lengths = length-take-le u a p.spelled.within ∙ same ∙ sym (length-take-le v b q.spelled.within)

    equal : groups (take u a) ≡ groups (take v b)
    equal = sym p.spelled.number ∙ q.spelled.number

    each : (k : ℕ) → k < length (take u a) → get_or (take u a) k 0 ≡ get_or (take v b) k 0
    each k lt =
        let below : k < u = omega (arith, lt, length-take-le u a p.spelled.within) in
        let x : get_or (take u a) k 0 ≡ get_or a k 0 = get_or-take u a k 0 below in
        let y : get_or (take v b) k 0 ≡ get_or b k 0 = get_or-take v b k 0 (omega (arith, below, same)) in
        let low : get_or (take u a) k 0 % 128 ≡ get_or (take v b) k 0 % 128 = groups_same (take u a) (take v b) lengths equal k in
        let first : get_or a k 0 < 256 = All-get_or (λ x. x < 256) a k 0 (omega (arith, below, p.spelled.within)) la in
        let second : get_or b k 0 < 256 = All-get_or (λ x. x < 256) b k 0 (omega (arith, below, same, q.spelled.within)) lb in
        elim (cases_lt (k + 1) u) [
          | inl more ↦
              let high : 128 ≤ get_or a k 0 = p.spelled.more k more in
              let top : 128 ≤ get_or b k 0 = q.spelled.more k (omega (arith, more, same)) in
              omega (arith, x, y, low, first, second, high, top)
          | inr end ↦
              let last : k ≡ u - 1 = omega (arith, end, below) in
              let high : get_or a k 0 < 128 = subst (λ (i : ℕ). get_or a i 0 < 128) (sym last) p.spelled.last in
              let top : get_or b k 0 < 128 = subst (λ (i : ℕ). get_or b i 0 < 128) (let e : v - 1 ≡ k = omega (arith, last, same) in e) q.spelled.last in
              omega (arith, x, y, low, high, top)
        ]

-- ---- packed numbers

same_numbers : (xs ys : List ℕ) → length xs ≡ length ys → ((i : ℕ) → get_or xs i 0 < 2) → ((i : ℕ) → get_or ys i 0 < 2) → number xs ≡ number ys → xs ≡ ys
same_numbers [] [] s p q e = refl
same_numbers [] (y ∷ ys) s p q e = absurd (omega (arith, s))
same_numbers (x ∷ xs) [] s p q e = absurd (omega (arith, s))
same_numbers (x ∷ xs) (y ∷ ys) s p q e =
    let a : x < 2 = p 0 in
    let b : y < 2 = q 0 in
    let h : x ≡ y = omega (arith, a, b, e) in
    let t : xs ≡ ys = same_numbers xs ys (omega (arith, s)) (λ i. p (suc i)) (λ i. q (suc i)) (omega (arith, a, b, e)) in
    cc (h, t)

length_take : (k : ℕ) (xs : List ℕ) → length (take k xs) ≤ k
length_take zero xs = omega arith
length_take (suc k) [] = omega arith
length_take (suc k) (x ∷ xs) = let r = length_take k xs in omega (arith, r)

part_below : (bytes : List ℕ) (n w i : ℕ) → get_or (take w (drop n (bits bytes))) i 0 < 2
part_below bytes n w i = elim (cases_lt i w) [
  | inl lt ↦ subst (λ (x : ℕ). x < 2) (sym (get_or-take w (drop n (bits bytes)) i 0 lt ∙ get_or-drop n (bits bytes) i 0)) (bits_below bytes (n + i))
  | inr ge ↦ subst (λ (x : ℕ). x < 2) (sym (past ge)) (omega arith)
]
  where
    past : w ≤ i → get_or (take w (drop n (bits bytes))) i 0 ≡ 0
    past ge = get_or_past (take w (drop n (bits bytes))) i 0 (let le = length_take w (drop n (bits bytes)) in omega (arith, le, ge))

-- the bits of the first numbers are the same
same_bits : (a b : List ℕ) (w : ℕ) (xs : List ℕ) → IsPacked a w xs → IsPacked b w xs → (n : ℕ) → n ≤ length xs → take (n * w) (bits a) ≡ take (n * w) (bits b)
same_bits a b w xs p q zero le = let e : zero * w ≡ 0 = omega arith in ap (λ (k : ℕ). take k (bits a)) e ∙ sym (ap (λ (k : ℕ). take k (bits b)) e)
same_bits a b w xs p q (suc n) le =
    let more : suc n * w ≡ n * w + w = omega arith in
    let next : (n + 1) * w - n * w ≡ w = omega (arith, add-mul n 1 w) in
    let room : suc n * w ≤ length xs * w = mul-le-mul_right w le in
    let part = λ (bytes : List ℕ). take w (drop (n * w) (bits bytes)) in
    let one : number (part a) ≡ number (part b) = ap (λ (k : ℕ). number (take k (drop (n * w) (bits a)))) (sym next) ∙ sym (p.each n (omega (arith, le))) ∙ q.each n (omega (arith, le)) ∙ ap (λ (k : ℕ). number (take k (drop (n * w) (bits b)))) next in
    let first : length (part a) ≡ w = length-take-le w (drop (n * w) (bits a)) (omega (arith, length-drop (n * w) (bits a), length-bits a, p.within, room, more)) in
    let second : length (part b) ≡ w = length-take-le w (drop (n * w) (bits b)) (omega (arith, length-drop (n * w) (bits b), length-bits b, q.within, room, more)) in
    let same : part a ≡ part b = same_numbers (part a) (part b) (first ∙ sym second) (part_below a (n * w) w) (part_below b (n * w) w) one in
    ap (λ (k : ℕ). take k (bits a)) more ∙ take-add (n * w) w (bits a) ∙ ap (λ (t : List ℕ). t ++ part a) (same_bits a b w xs p q n (omega (arith, le))) ∙ ap (λ (t : List ℕ). take (n * w) (bits b) ++ t) same
    ∙ sym (ap (λ (k : ℕ). take k (bits b)) more ∙ take-add (n * w) w (bits b))

same_bytes : (xs ys : List ℕ) → AreBytes xs → AreBytes ys → bits xs ≡ bits ys → xs ≡ ys
same_bytes [] [] p q e = refl
same_bytes [] (y ∷ ys) p q e = cc
same_bytes (x ∷ xs) [] p q e = cc
same_bytes (x ∷ xs) (y ∷ ys) p q e =
    let one = cons_same _ _ _ _ e in
    let two = cons_same _ _ _ _ one.1 in
    let three = cons_same _ _ _ _ two.1 in
    let four = cons_same _ _ _ _ three.1 in
    let five = cons_same _ _ _ _ four.1 in
    let six = cons_same _ _ _ _ five.1 in
    let seven = cons_same _ _ _ _ six.1 in
    let eight = cons_same _ _ _ _ seven.1 in
    let small : x < 256 = p 0 0 (omega arith) in
    let little : y < 256 = q 0 0 (omega arith) in
    let h : x ≡ y = omega (arith, small, little, one.0, two.0, three.0, four.0, five.0, six.0, seven.0, eight.0) in
    let t : xs ≡ ys = same_bytes xs ys (rest_bytes 1 (x ∷ xs) p) (rest_bytes 1 (y ∷ ys) q) eight.1 in
    cc (h, t)

front_bits : (n : ℕ) (bytes : List ℕ) → n ≤ length bytes → take (8 * n) (bits bytes) ≡ bits (take n bytes)
front_bits n bytes le =
    ap (λ (t : List ℕ). take (8 * n) (bits t)) (sym (take-append-drop n bytes)) ∙ ap (λ (t : List ℕ). take (8 * n) t) (bits-append (take n bytes) (drop n bytes))
    ∙ take_at (bits (take n bytes)) (bits (drop n bytes)) (8 * n) (omega (arith, length-bits (take n bytes), length-take-le n bytes le))

same_part : (a b : List ℕ) (w : ℕ) (xs : List ℕ) (u v : ℕ) → AreBytes a → AreBytes b → IsMiniblock 32 w a xs u → IsMiniblock 32 w b xs v → SameFront a b u v
same_part a b w xs u v la lb p q =
    let same : u ≡ v = omega (arith, p.ends, q.ends) in
    let size : length xs * w ≡ 8 * u = ap (λ (n : ℕ). n * w) p.count ∙ sym p.ends in
    let within : u ≤ length a = omega (arith, size, p.packed.within) in
    let inside : v ≤ length b = omega (arith, size, q.packed.within, same) in
    let equal : take (8 * u) (bits a) ≡ take (8 * u) (bits b) = subst (λ (k : ℕ). take k (bits a) ≡ take k (bits b)) size (same_bits a b w xs p.packed q.packed (length xs) (omega arith)) in
    record {
      size = same;
      front = same_bytes (take u a) (take v b) (All-take (λ x. x < 256) u a la) (All-take (λ x. x < 256) v b lb)
          (sym (front_bits u a within) ∙ equal ∙ ap (λ (k : ℕ). take (8 * k) (bits b)) same ∙ front_bits v b inside);
    }

same_parts : (ws xs a b : List ℕ) (u v : ℕ) → AreBytes a → AreBytes b → AreMiniblocks 32 ws a xs u → AreMiniblocks 32 ws b xs v → SameFront a b u v
same_parts [] xs a b u v la lb p q = nothing a b u v p.1 q.1
same_parts (w ∷ ws) xs a b u v la lb (here, others, i, j, is, more, xs_are, u_is) (has, rest, k, l, too, later, ys_are, v_is) =
    let joined : here ++ others ≡ has ++ rest = sym xs_are ∙ ys_are in
    let first : here ≡ has = sym (take_at here others 32 is.count) ∙ ap (λ (t : List ℕ). take 32 t) joined ∙ take_at has rest 32 too.count in
    let second : others ≡ rest = sym (drop_at here others 32 is.count) ∙ ap (λ (t : List ℕ). drop 32 t) joined ∙ drop_at has rest 32 too.count in
    let one = same_part a b w has i k la lb (subst (λ (t : List ℕ). IsMiniblock 32 w a t i) first is) too in
    let two = same_parts ws rest (drop i a) (drop k b) j l (rest_bytes i a la) (rest_bytes k b lb) (subst (λ (t : List ℕ). AreMiniblocks 32 ws (drop i a) t j) second more) later in
    subst (λ (n : ℕ). SameFront a b n v) (sym u_is) (subst (λ (n : ℕ). SameFront a b (i + j) n) (sym v_is) (both a b i k j l one two))

-- ---- a block

one_least : (ds : List ℤ) (l m : ℤ) → IsLeast ds l → IsLeast ds m → l ≡ m
one_least ds l m p q =
    let below : l ≤ℤ m = All-contains (λ z. l ≤ℤ z) ds m p.below q.there in
    let above : m ≤ℤ l = All-contains (λ z. m ≤ℤ z) ds l q.below p.there in
    omega (arith, ints, below, above)

one_width : (xs : List ℕ) (v w : ℕ) → IsLeastWidth xs v → IsLeastWidth xs w → v ≡ w
one_width xs v w p q = let below = p.fewest w q.enough in let above = q.fewest v p.enough in omega (arith, below, above)

one_number : (least : ℤ) (x y : ℕ) → least +ℤ pos x ≡ least +ℤ pos y → x ≡ y
one_number least x y e = omega (arith, ints, e)

cons_ints : (x y : ℤ) (xs ys : List ℤ) → x ∷ xs ≡ y ∷ ys → (x ≡ y) × (xs ≡ ys)
cons_ints x y xs ys e = let h : x ≡ y = cc in let t : xs ≡ ys = cc in (h, t)

one_list : (least : ℤ) (xs ys : List ℕ) → map (λ x. least +ℤ pos x) xs ≡ map (λ x. least +ℤ pos x) ys → xs ≡ ys
one_list least [] [] e = refl
one_list least [] (y ∷ ys) e = cc
one_list least (x ∷ xs) [] e = cc
one_list least (x ∷ xs) (y ∷ ys) e =
    let c = cons_ints _ _ _ _ e in
    let h : x ≡ y = one_number least x y c.0 in
    let t : xs ≡ ys = one_list least xs ys c.1 in
    cc (h, t)

width_byte : (a : List ℕ) (at k : ℕ) → k < 4 → get_or (take 4 (drop at a)) k 0 ≡ slice_index a (at + k)
width_byte a at k lt = get_or-take 4 (drop at a) k 0 lt ∙ get_or-drop at a k 0

same_block : (w : Width) (a b : List ℕ) (ds : List ℤ) (u v : ℕ) → AreBytes a → AreBytes b → IsWrittenBlock w a ds u → IsWrittenBlock w b ds v → SameFront a b u v
same_block w a b ds u v la lb p q =
    let least : p.least ≡ q.least = one_least ds p.least q.least p.least_is q.least_is in
    let head = same_uleb a b (zigzag_of q.least) p.at q.at la lb (subst (λ (z : ℤ). IsShortestUleb a (zigzag_of z) p.at) least p.says) q.says in
    let numbers : p.numbers ≡ q.numbers = one_list q.least p.numbers q.numbers
    (subst (λ (z : ℤ). map (λ x. z +ℤ pos x) p.numbers ≡ map (λ x. z +ℤ pos x) q.numbers) least (p.numbers_are ∙ subst (λ (z : ℤ). filled z ≡ map (λ x. z +ℤ pos x) q.numbers) (sym least) (sym q.numbers_are))) in
    let long : length (take 4 (drop p.at a)) ≡ 4 = length-take-le 4 (drop p.at a) (omega (arith, length-drop p.at a, p.room)) in
    let wide : length (take 4 (drop q.at b)) ≡ 4 = length-take-le 4 (drop q.at b) (omega (arith, length-drop q.at b, q.room)) in
    let widths : take 4 (drop p.at a) ≡ take 4 (drop q.at b) = same_number_lists (take 4 (drop p.at a)) (take 4 (drop q.at b)) (long ∙ sym wide)
    (λ k lt.
    let m : k < 4 = omega (arith, lt, long) in
    width_byte a p.at k m ∙ one_width (take 32 (drop (32 * k) q.numbers)) (slice_index a (p.at + k)) (slice_index b (q.at + k)) (subst (λ (xs : List ℕ). IsLeastWidth (take 32 (drop (32 * k) xs)) (slice_index a (p.at + k))) numbers (p.widths k m)) (q.widths k m)
    ∙ sym (width_byte b q.at k m)) in
    let n = (length ds + 31) / 32 in
    let body = same_parts (take n (take 4 (drop q.at b))) (take (32 * n) q.numbers) (drop (p.at + 4) a) (drop (q.at + 4) b) p.body q.body (rest_bytes (p.at + 4) a la) (rest_bytes (q.at + 4) b lb)
    (subst (λ (t : List ℕ). AreMiniblocks 32 (take n t) (drop (p.at + 4) a) (take (32 * n) q.numbers) p.body) widths (subst (λ (t : List ℕ). AreMiniblocks 32 (take n (take 4 (drop p.at a))) (drop (p.at + 4) a) (take (32 * n) t) p.body) numbers p.packed))
    q.packed in
    let front = both a b p.at q.at 4 4 head (record { size = refl; front = widths }) in
    let whole = both a b (p.at + 4) (q.at + 4) p.body q.body front body in
    subst (λ (k : ℕ). SameFront a b k v) (sym p.ends) (subst (λ (k : ℕ). SameFront a b (p.at + 4 + p.body) k) (sym q.ends) whole)
  where
    filled : ℤ → List ℤ
    filled z = ds ++ replicate (128 - length ds) z

-- ---- all of it

pub one_text : (w : Width) (values : List ℤ) (a b : List ℕ) → AreBytes a → AreBytes b → IsWrittenDelta w values a (length a) → IsWrittenDelta w values b (length b) → a ≡ b
one_text w values a b la lb p q =
    let head = in_turn IsShortestUleb same_uleb (128 ∷ 4 ∷ length values ∷ zigzag_of (get_or values 0 (pos 0)) ∷ []) a b p.at q.at la lb p.header q.header in
    let blocks = in_turn (IsWrittenBlock w) (same_block w) (blocks_of w values) (drop p.at a) (drop q.at b) p.body q.body (rest_bytes p.at a la) (rest_bytes q.at b lb) p.blocks q.blocks in
    let whole = both a b p.at q.at p.body q.body head blocks in
    sym (take_all (p.at + p.body) a (omega (arith, p.ends))) ∙ whole.front ∙ take_all (q.at + q.body) b (omega (arith, q.ends))
