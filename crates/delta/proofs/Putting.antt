-- What writing blocks gives.
use Rattle.std.proofs.Common.{take-add, ◌≡◌, ℕ, zero, suc, ◌+◌, ◌-◌, ◌*◌, ◌/◌, ◌^◌, ◌<◌, ◌≤◌, min, List, [], ◌∷◌, ◌++◌, length, get_or, take, drop, refl, sym, ap, subst, ◌∙◌, arith, inl, inr, append_assoc}
use Rattle.std.specs.Prelude.{ℤ, pos, ◌+ℤ◌, slice_index}
use Rattle.std.specs.Int.{Width, int_wrap, byte_len}
use Rattle.std.proofs.lemmas.List.{take_all, length-append, length-drop, length-take-le, append-nil, drop-drop, take_at, take-append-drop, take-take, take_more, take-map, length-map}
use Rattle.std.proofs.lemmas.Nat.{pow-add}
use Rattle.std.proofs.Math.Pow.{pow_mono}
use Rattle.std.proofs.Math.Nat.{mul-le-mul_right, add-mul}
use Rattle.std.proofs.lemmas.Bool.{cases_lt}
use Rattle.std.proofs.lemmas.Int.{ints}
use Rattle.lists.proofs.Slices.{take_joined as take_both}
use Rattle.bits.specs.Bits.{IsPadded, packed_size}
use Rattle.bits.specs.Codec.{InTurn, Appends}
use Rattle.bits.specs.Varint.{IsUleb, IsShortestUleb, zigzag_of}
use Rattle.bits.proofs.Appending.{appends_both, appends_turn}
use Rattle.delta.specs.Delta.{IsMiniblock, AreMiniblocks, IsBlock, AreBlocks, IsHeader, joined, sums, IsDelta, most_bytes}
use Rattle.delta.specs.inner.Taken.{Adds, deltas_of}
use Rattle.delta.specs.inner.Put.{block_count, PutDeltas}
use Rattle.delta.proofs.Sums.{sums_front, adds_nothing, adds_both}
use Rattle.delta.proofs.Gathering.{joined_push}
use Rattle.delta.proofs.Varints.{short, two}

-- one more miniblock
pub miniblocks_push : (s w : ℕ) (ws bytes xs ys : List ℕ) (u v : ℕ) → AreMiniblocks s ws bytes xs u → IsMiniblock s w (drop u bytes) ys v → AreMiniblocks s (ws ++ w ∷ []) bytes (xs ++ ys) (u + v)
miniblocks_push s w [] bytes xs ys u v p q =
    (ys, [], v, 0, subst (λ (n : ℕ). IsMiniblock s w (drop n bytes) ys v) p.1 q, (refl, refl), ap (λ (t : List ℕ). t ++ ys) p.0 ∙ sym (append-nil ys), omega (arith, p.1))
miniblocks_push s w (x ∷ ws) bytes xs ys u v (here, others, i, j, is, more, xs_are, u_is) q =
    let e : drop j (drop i bytes) ≡ drop u bytes = drop-drop j i bytes ∙ ap (λ (n : ℕ). drop n bytes) (sym u_is) in (
      here,
      others ++ ys,
      i,
      j + v,
      is,
      miniblocks_push s w ws (drop i bytes) others ys j v more (subst (λ (b : List ℕ). IsMiniblock s w b ys v) (sym e) q),
      ap (λ (t : List ℕ). t ++ ys) xs_are ∙ append_assoc here others ys,
      omega (arith, u_is),
    )

-- a packed miniblock of 32
pub packed_miniblock : (w most : ℕ) (xs old new : List ℕ) → length xs ≡ 32 → w ≤ 64 → w ≤ 8 * most → Appends (λ bytes. IsPadded bytes w xs) (packed_size (length xs) w) old new
    → Appends (λ bytes used. IsMiniblock 32 w bytes xs used) (32 * most) old new
packed_miniblock w most xs old new count wide few p =
    let size : packed_size (length xs) w ≡ 4 * w = ap (λ (n : ℕ). packed_size n w) count ∙ (let e : (32 * w + 7) / 8 ≡ 4 * w = omega arith in e) in
    record {
      text = p.text;
      joined = p.joined;
      stands = λ more. let q = p.stands more in record { wide = wide; count = count; packed = q.packed; ends = omega (arith, q.least, size) };
      short = omega (arith, p.short, size, few);
    }

-- the first miniblocks are written
pub miniblocks_begin : (ws numbers old : List ℕ) → Appends (λ bytes used. AreMiniblocks 32 (take 0 ws) bytes (take (32 * 0) numbers) used) 0 old old
miniblocks_begin ws numbers old = record { text = []; joined = sym (append-nil old); stands = λ more. (refl, refl); short = omega arith }

pub miniblocks_more : (ws numbers old mid new : List ℕ) (m most : ℕ) → m < length ws → 32 * m + 32 ≤ length numbers → slice_index ws m ≤ 64 → slice_index ws m ≤ 8 * most
    → Appends (λ bytes used. AreMiniblocks 32 (take m ws) bytes (take (32 * m) numbers) used) (32 * most * m) old mid
    → Appends (λ bytes. IsPadded bytes (slice_index ws m) (take 32 (drop (32 * m) numbers))) (packed_size (length (take 32 (drop (32 * m) numbers))) (slice_index ws m)) mid new
    → Appends (λ bytes used. AreMiniblocks 32 (take (m + 1) ws) bytes (take (32 * (m + 1)) numbers) used) (32 * most * (m + 1)) old new
miniblocks_more ws numbers old mid new m most lt room wide few p q =
    let here = take 32 (drop (32 * m) numbers) in
    let w = slice_index ws m in
    let count : length here ≡ 32 = length-take-le 32 (drop (32 * m) numbers) (omega (arith, length-drop (32 * m) numbers)) in
    let block = packed_miniblock w most here mid new count wide few q in
    let widths : take (m + 1) ws ≡ take m ws ++ w ∷ [] = take_more ws m 0 lt in
    let parts : take (32 * (m + 1)) numbers ≡ take (32 * m) numbers ++ here = ap (λ (k : ℕ). take k numbers) (let e : 32 * (m + 1) ≡ 32 * m + 32 = omega arith in e) ∙ take-add (32 * m) 32 numbers in
    let most_is : 32 * most * m + 32 * most ≡ 32 * most * (m + 1) = omega arith in
    let both = appends_both (λ bytes used. AreMiniblocks 32 (take m ws) bytes (take (32 * m) numbers) used) (λ bytes used. IsMiniblock 32 w bytes here used)
    (λ bytes used. AreMiniblocks 32 (take m ws ++ w ∷ []) bytes (take (32 * m) numbers ++ here) used) (32 * most * m) (32 * most) old mid new
    (λ bytes u v a b. miniblocks_push 32 w (take m ws) bytes (take (32 * m) numbers) here u v a b) p block in
    subst (λ (k : ℕ). Appends (λ bytes used. AreMiniblocks 32 (take (m + 1) ws) bytes (take (32 * (m + 1)) numbers) used) k old new) most_is
    (subst (λ (xs : List ℕ). Appends (λ bytes used. AreMiniblocks 32 (take (m + 1) ws) bytes xs used) (32 * most * m + 32 * most) old new) (sym parts)
    (subst (λ (vs : List ℕ). Appends (λ bytes used. AreMiniblocks 32 vs bytes (take (32 * m) numbers ++ here) used) (32 * most * m + 32 * most) old new) (sym widths) both))

-- bytes that stand for themselves
pub widths_written : (ws old new : List ℕ) → length ws ≡ 4 → new ≡ old ++ ws → Appends (λ bytes used. (take 4 bytes ≡ ws) × (4 ≤ length bytes) × (used ≡ 4)) 4 old new
widths_written ws old new count is = record {
  text = ws;
  joined = is;
  stands = λ more. (take_at ws more 4 count, omega (arith, length-append ws more, count), count);
  short = omega (arith, count);
}

-- a block of its least delta, its widths and its miniblocks
pub block_written : (least : ℤ) (k most number : ℕ) (ws numbers old one two new : List ℕ) → zigzag_of least ≡ number → Appends (λ bytes used. IsShortestUleb bytes number used) 10 old one
    → Appends (λ bytes used. (take 4 bytes ≡ ws) × (4 ≤ length bytes) × (used ≡ 4)) 4 one two → Appends (λ bytes used. AreMiniblocks 32 (take k ws) bytes (take (32 * k) numbers) used) (32 * most * k) two new
    → Appends (λ bytes used. IsBlock 4 32 k bytes (deltas_of least (take (32 * k) numbers)) used) (14 + 32 * most * k) old new
block_written least k most number ws numbers old one two new is a b c =
    let head = appends_both (λ bytes used. IsShortestUleb bytes number used) (λ bytes used. (take 4 bytes ≡ ws) × (4 ≤ length bytes) × (used ≡ 4))
    (λ bytes used. (at : ℕ) × IsUleb bytes number at × (take 4 (drop at bytes) ≡ ws) × (at + 4 ≤ length bytes) × (used ≡ at + 4)) 10 4 old one two
    (λ bytes u v p q. (u, p.spelled, q.0, omega (arith, q.1, length-drop u bytes, p.spelled.within), omega (arith, q.2))) a b in
    appends_both (λ bytes used. (at : ℕ) × IsUleb bytes number at × (take 4 (drop at bytes) ≡ ws) × (at + 4 ≤ length bytes) × (used ≡ at + 4)) (λ bytes used. AreMiniblocks 32 (take k ws) bytes (take (32 * k) numbers) used)
    (λ bytes used. IsBlock 4 32 k bytes (deltas_of least (take (32 * k) numbers)) used) (10 + 4) (32 * most * k) old two new
    (λ bytes u v p q. record {
      least = least;
      at = p.0;
      numbers = take (32 * k) numbers;
      body = v;
      says = subst (λ (n : ℕ). IsUleb bytes n p.0) (sym is) p.1;
      widths = p.3;
      packed = subst (λ (t : List ℕ). AreMiniblocks 32 (take k t) (drop (p.0 + 4) bytes) (take (32 * k) numbers) v) (sym p.2)
          (subst (λ (n : ℕ). AreMiniblocks 32 (take k ws) (drop n bytes) (take (32 * k) numbers) v) p.4 q);
      stands_for = refl;
      ends = omega (arith, p.4);
    }) head c

-- ---- all blocks

-- the blocks up to index `at` are written: whatever blocks follow, they complete them
pub record IsWriting (w : Width) (values : List ℤ) (old new : List ℕ) (at : ℕ) : Type 0 where
  pub front : List (List ℤ)
  pub most : ℕ
  pub written : Appends (λ bytes used. (tail : List (List ℤ)) (v : ℕ) → AreBlocks 4 32 ((length values - at + 31) / 32) (drop used bytes) tail v
      → AreBlocks 4 32 ((length values - 1 + 31) / 32) bytes (front ++ tail) (used + v)) most old new
  pub added : Adds w (take (at - 1) (joined front)) (take 1 values) (take at values)
  pub enough : at - 1 ≤ length (joined front)
  pub begun : 0 < at
  pub bounded : 0 < length values → at ≤ length values
  pub none : length values ≡ 0 → at ≡ 1
  pub whole : at < length values → length (joined front) ≡ at - 1
  pub short : at < length values → most ≤ (at - 1) * (byte_len w + 1)
  pub bound : most ≤ (at - 1) * (byte_len w + 1) + 14 + 31 * byte_len w

pub writing_begins : (w : Width) (values : List ℤ) (old : List ℕ) → IsWriting w values old old 1
writing_begins w values old = record {
  front = [];
  most = 0;
  written = record {
    text = [];
    joined = sym (append-nil old);
    stands = λ more tail v p. subst (λ (k : ℕ). AreBlocks 4 32 ((length values - 1 + 31) / 32) more tail k) (let e : v ≡ 0 + v = omega arith in e) p;
    short = omega arith;
  };
  added = subst (λ (ds : List ℤ). Adds w ds (take 1 values) (take 1 values)) (sym (take_all 0 [] (omega arith))) (adds_nothing w (take 1 values));
  enough = omega arith;
  begun = omega arith;
  bounded = λ some. omega (arith, some);
  none = λ empty. refl;
  whole = λ lt. refl;
  short = λ lt. omega arith;
  bound = omega arith;
}

-- how many bytes one more block takes
more_bytes : (b most at count k : ℕ) → most ≤ (at - 1) * (b + 1) → 0 < at → 32 * k ≤ count + 31 → most + (14 + 32 * b * k) ≤ (at + count - 1) * (b + 1) + 14 + 31 * b
more_bytes b most at count k few begun parts =
    let e : at + count - 1 ≡ (at - 1) + count = omega (arith, begun) in
    let sum : (at + count - 1) * (b + 1) ≡ (at - 1) * (b + 1) + count * (b + 1) = ap (λ (n : ℕ). n * (b + 1)) e ∙ add-mul (at - 1) count (b + 1) in
    let le : (32 * k) * b ≤ (count + 31) * b = mul-le-mul_right b parts in
    let left : 32 * b * k ≡ (32 * k) * b = omega arith in
    let right : (count + 31) * b ≡ count * b + 31 * b = omega arith in
    let last : count * (b + 1) ≡ count * b + count = omega arith in
    omega (arith, few, sum, le, left, right, last)

whole_bytes : (b most at : ℕ) → most ≤ (at - 1) * (b + 1) → 0 < at → most + (14 + 32 * b * 4) ≤ (at + 128 - 1) * (b + 1)
whole_bytes b most at few begun =
    let e : at + 128 - 1 ≡ (at - 1) + 128 = omega (arith, begun) in
    let sum : (at + 128 - 1) * (b + 1) ≡ (at - 1) * (b + 1) + 128 * (b + 1) = ap (λ (n : ℕ). n * (b + 1)) e ∙ add-mul (at - 1) 128 (b + 1) in
    omega (arith, few, sum)

pub writing_goes_on : (w : Width) (values : List ℤ) (old mid new : List ℕ) (at : ℕ) → at < length values → PutDeltas w values at mid new → IsWriting w values old mid at → IsWriting w values old new (at + block_count values at)
writing_goes_on w values old mid new at lt put p =
    let b = byte_len w in
    let n = length values in
    let count = block_count values at in
    let ds = put.deltas in
    let k = (count + 31) / 32 in
    let left = (n - at + 31) / 32 in
    let all = (n - 1 + 31) / 32 in
    let here : k ≡ min 4 left = omega (arith, lt) in
    let rest : left - 4 ≡ (n - (at + count) + 31) / 32 = omega (arith, lt) in
    let some : 0 < left = omega (arith, lt) in
    let begun = p.begun in
    let whole = p.whole lt in
    let behind : at + count - 1 - length (joined p.front) ≡ count = omega (arith, whole, begun) in
    let parts : take (at + count - 1) (joined (p.front ++ ds ∷ [])) ≡ take (at - 1) (joined p.front) ++ take count ds =
    ap (λ (t : List ℤ). take (at + count - 1) t) (joined_push p.front ds) ∙ take_both (at + count - 1) (joined p.front) ds
    ∙ ap (λ (t : List ℤ). t ++ take (at + count - 1 - length (joined p.front)) ds) (take_all (at + count - 1) (joined p.front) (omega (arith, whole, begun)) ∙ sym (take_all (at - 1) (joined p.front) (omega (arith, whole))))
    ∙ ap (λ (i : ℕ). take (at - 1) (joined p.front) ++ take i ds) behind in
    let size : length (joined (p.front ++ ds ∷ [])) ≡ (at - 1) + 32 * k = ap length (joined_push p.front ds) ∙ length-append (joined p.front) ds ∙ (let e : length (joined p.front) + length ds ≡ (at - 1) + 32 * k = omega (arith, whole, put.count) in e) in
    let First = λ (bytes : List ℕ) (used : ℕ). (tail : List (List ℤ)) (v : ℕ) → AreBlocks 4 32 left (drop used bytes) tail v → AreBlocks 4 32 all bytes (p.front ++ tail) (used + v) in
    let Both = λ (bytes : List ℕ) (used : ℕ). (tail : List (List ℤ)) (v : ℕ) → AreBlocks 4 32 ((n - (at + count) + 31) / 32) (drop used bytes) tail v → AreBlocks 4 32 all bytes ((p.front ++ ds ∷ []) ++ tail) (used + v) in
    record {
      front = p.front ++ ds ∷ [];
      most = p.most + (14 + 32 * b * k);
      written = appends_both First (λ bytes used. IsBlock 4 32 k bytes ds used) Both p.most (14 + 32 * b * k) old mid new
          (λ bytes u v first block tail t others.
          let moved : AreBlocks 4 32 (left - 4) (drop v (drop u bytes)) tail t = subst (λ (c : ℕ). AreBlocks 4 32 c (drop v (drop u bytes)) tail t) (sym rest) (subst (λ (xs : List ℕ). AreBlocks 4 32 ((n - (at + count) + 31) / 32) xs tail t) (sym (drop-drop v u bytes)) others) in
          let done = first (ds ∷ tail) (v + t) (v, t, some, subst (λ (c : ℕ). IsBlock 4 32 c (drop u bytes) ds v) here block, moved, refl) in
          subst (λ (xs : List (List ℤ)). AreBlocks 4 32 all bytes xs (u + v + t)) (sym (append_assoc p.front (ds ∷ []) tail)) (subst (λ (c : ℕ). AreBlocks 4 32 all bytes (p.front ++ ds ∷ tail) c) (let e : u + (v + t) ≡ u + v + t = omega arith in e) done))
          p.written put.stands;
      added = subst (λ (t : List ℤ). Adds w t (take 1 values) (take (at + count) values)) (sym parts) (adds_both w (take (at - 1) (joined p.front)) (take count ds) (take 1 values) (take at values) (take (at + count) values) p.added put.added);
      enough = omega (arith, size, begun);
      begun = omega (arith, begun);
      bounded = λ any. omega (arith, lt);
      none = λ empty. absurd (omega (arith, empty, lt));
      whole = λ more. omega (arith, size, more, lt, begun);
      short = λ more. let full : count ≡ 128 = omega (arith, more, lt) in let four : k ≡ 4 = omega (arith, full) in
          rw (four, full) (whole_bytes b p.most at (p.short lt) begun);
      bound = more_bytes b p.most at count k (p.short lt) begun (omega arith);
    }

uleb_written : (n : ℕ) (old new : List ℕ) → Appends (λ bytes used. IsShortestUleb bytes n used) 10 old new → Appends (λ bytes used. IsUleb bytes n used) 10 old new
uleb_written n old new p = record { text = p.text; joined = p.joined; stands = λ more. (p.stands more).spelled; short = p.short }

-- the header
pub header_written : (n number : ℕ) (first : ℤ) (old one mid new : List ℕ) → zigzag_of first ≡ number → one ≡ old ++ 128 ∷ 1 ∷ 4 ∷ [] → Appends (λ bytes used. IsShortestUleb bytes n used) 10 one mid
    → Appends (λ bytes used. IsShortestUleb bytes number used) 10 mid new → Appends (λ bytes used. IsHeader bytes 4 32 n first used) 23 old new
header_written n number first old one mid new is begun a b =
    let start : Appends (λ bytes used. InTurn IsUleb bytes (128 ∷ 4 ∷ []) used) 3 old one = record {
      text = 128 ∷ 1 ∷ 4 ∷ [];
      joined = begun;
      stands = λ more. (2, 1, block_size more, (1, 0, parts more, refl, omega arith), omega arith);
      short = omega arith;
    } in
    let counted = appends_turn IsUleb (128 ∷ 4 ∷ []) n 3 10 old one mid start (uleb_written n one mid a) in
    let whole = appends_turn IsUleb (128 ∷ 4 ∷ n ∷ []) number (3 + 10) 10 old mid new counted (uleb_written number mid new b) in
    record {
      text = whole.text;
      joined = whole.joined;
      stands = λ more. record { says = subst (λ (z : ℕ). InTurn IsUleb (whole.text ++ more) (128 ∷ 4 ∷ n ∷ z ∷ []) (length whole.text)) (sym is) (whole.stands more); some = omega arith; whole = refl; whole_parts = refl };
      short = whole.short;
    }
  where
    block_size : (more : List ℕ) → IsUleb (128 ∷ 1 ∷ 4 ∷ more) 128 2
    block_size more = two 128 1 128 (4 ∷ more) (omega arith) (omega arith) (omega arith) refl

    parts : (more : List ℕ) → IsUleb (4 ∷ more) 4 1
    parts more = short 4 more (omega arith)

-- the first value, and the values that the deltas lead to
values_are : (w : Width) (first : ℤ) (values : List ℤ) (deltas : List ℤ) → 0 < length values → get_or values 0 (pos 0) ≡ first → int_wrap w first ≡ first → length values - 1 ≤ length deltas
    → Adds w (take (length values - 1) deltas) (take 1 values) (take (length values) values) → values ≡ sums w first deltas (length values)
values_are w first values deltas some first_is fits enough added =
    let n = length values in
    let front = take (n - 1) deltas in
    let few : length front ≡ n - 1 = length-take-le (n - 1) deltas enough in
    let count : length front + 1 ≡ n = omega (arith, few, some) in
    let one : take 1 values ≡ first ∷ [] = take_more values 0 (pos 0) some ∙ ap (λ (z : ℤ). z ∷ []) first_is in
    let begins : take 1 values ≡ sums w first [] 1 = one ∙ ap (λ (z : ℤ). z ∷ []) (sym fits ∙ ap (int_wrap w) (sym (add_zero first))) in
    let all : take n values ≡ sums w first front (length front + 1) = added first [] begins in
    let whole : sums w first deltas n ≡ sums w first front n = ap (λ (ds : List ℤ). sums w first ds n) (sym (take-append-drop (n - 1) deltas)) ∙ sums_front w first front (drop (n - 1) deltas) n (omega (arith, count)) in
    sym (take_all n values (omega arith)) ∙ all ∙ ap (λ (k : ℕ). sums w first front k) count ∙ sym whole
  where
    add_zero : (z : ℤ) → z +ℤ pos 0 ≡ z
    add_zero z = omega (arith, ints)

no_values_are : (w : Width) (first : ℤ) (values : List ℤ) (deltas : List ℤ) → length values ≡ 0 → values ≡ sums w first deltas (length values)
no_values_are w first [] deltas none = refl
no_values_are w first (v ∷ values) deltas none = absurd (omega (arith, none))

pub writing_ends : (w : Width) (values : List ℤ) (first : ℤ) (at : ℕ) (old mid new : List ℕ) → length values ≤ at → (0 < length values → (get_or values 0 (pos 0) ≡ first) × (int_wrap w first ≡ first))
    → Appends (λ bytes used. IsHeader bytes 4 32 (length values) first used) 23 old mid → IsWriting w values mid new at
    → Appends (λ bytes. IsDelta w bytes (length values) values) (most_bytes w (length values)) old new
writing_ends w values first at old mid new all begun header p =
    let n = length values in
    let b = byte_len w in
    let needed = (n - 1 + 31) / 32 in
    let none : (n - at + 31) / 32 ≡ 0 = omega (arith, all) in
    let deltas = joined p.front in
    let at_is : at - 1 ≡ n - 1 = elim (cases_lt 0 n) [
      | inl some ↦ omega (arith, p.bounded some, all)
      | inr few ↦ omega (arith, p.none (omega (arith, few)), few)
    ] in
    let are : values ≡ sums w first deltas n = elim (cases_lt 0 n) [
      | inl some ↦
          let same : at ≡ n = omega (arith, p.bounded some, all) in
          let added : Adds w (take (n - 1) deltas) (take 1 values) (take n values) = subst (λ (k : ℕ). Adds w (take (k - 1) deltas) (take 1 values) (take k values)) same p.added in
          values_are w first values deltas some (begun some).0 (begun some).1 (omega (arith, p.enough, at_is)) added
      | inr few ↦ no_values_are w first values deltas (omega (arith, few))
    ] in
    let both = appends_both (λ bytes used. IsHeader bytes 4 32 n first used)
    (λ bytes used. (tail : List (List ℤ)) (v : ℕ) → AreBlocks 4 32 ((n - at + 31) / 32) (drop used bytes) tail v → AreBlocks 4 32 needed bytes (p.front ++ tail) (used + v))
    (λ bytes used. IsDelta w bytes n values used) 23 p.most old mid new
    (λ bytes u v head blocks. record {
      miniblocks = 4;
      size = 32;
      needed = needed;
      first = first;
      blocks = p.front;
      at = u;
      body = v;
      begins = head;
      enough = omega arith;
      fewest = λ k lt. omega (arith, lt);
      spelled = subst (λ (xs : List (List ℤ)). AreBlocks 4 32 needed (drop u bytes) xs v) (append-nil p.front)
          (subst (λ (c : ℕ). AreBlocks 4 32 needed (drop u bytes) (p.front ++ []) c) (let e : v + 0 ≡ v = omega arith in e) (blocks [] 0 (none, refl)));
      stands_for = are;
      ends = refl;
    }) header p.written in
    let product : (at - 1) * (b + 1) ≤ (b + 1) * n = fits_in b (at - 1) n (omega (arith, at_is)) in
    record { text = both.text; joined = both.joined; stands = both.stands; short = omega (arith, both.short, p.bound, product) }
  where
    fits_in : (b k n : ℕ) → k ≤ n → k * (b + 1) ≤ (b + 1) * n
    fits_in b k n le = let e : n * (b + 1) ≡ (b + 1) * n = omega arith in let m : k * (b + 1) ≤ n * (b + 1) = mul-le-mul_right (b + 1) le in omega (arith, e, m)

-- what holds of each of four parts of 32
pub four_parts : (P : ℕ → List ℕ → Type 0) (xs : List ℕ) (a b c d : ℕ) → P a (take 32 xs) → P b (take 32 (drop 32 xs)) → P c (take 32 (drop 64 xs)) → P d (take 32 (drop 96 xs))
    → (m : ℕ) → m < 4 → P (slice_index (a ∷ b ∷ c ∷ d ∷ []) m) (take 32 (drop (32 * m) xs))
four_parts P xs a b c d p q r s zero lt = p
four_parts P xs a b c d p q r s (suc zero) lt = q
four_parts P xs a b c d p q r s (suc (suc zero)) lt = r
four_parts P xs a b c d p q r s (suc (suc (suc zero))) lt = s
four_parts P xs a b c d p q r s (suc (suc (suc (suc m)))) lt = absurd (omega arith)

-- the bits of a largest number
pub width_narrow : (largest r x : ℕ) → largest < 2 * 2 ^ r → x ≤ largest → x < 2 ^ (r + 1)
width_narrow largest r x high le = let e : 2 ^ (r + 1) ≡ 2 ^ r * 2 = pow-add 2 r 1 in omega (arith, e, high, le)

pub width_least : (largest r b : ℕ) → 2 ^ r ≤ largest → largest < 2 ^ b → r + 1 ≤ b
width_least largest r b low high =
    elim (cases_lt b (r + 1)) [
      | inl lt ↦ let le : 2 ^ b ≤ 2 ^ r = pow_mono {i = b} {j = r} (omega arith) in absurd (omega (arith, le, low, high))
      | inr ge ↦ ge
    ]

pub zero_narrow : (b : ℕ) → 0 < 2 ^ b
zero_narrow b = let le : 2 ^ 0 ≤ 2 ^ b = pow_mono {i = 0} {j = b} (omega arith) in omega (arith, le)

-- a block whose numbers lead to its values
pub block_put : (w : Width) (values : List ℤ) (at k number : ℕ) (least : ℤ) (ws numbers old one two new : List ℕ) → length numbers ≡ 128 → k ≡ (block_count values at + 31) / 32
    → zigzag_of least ≡ number → Appends (λ bytes used. IsShortestUleb bytes number used) 10 old one → length ws ≡ 4 → two ≡ one ++ ws
    → Appends (λ bytes used. AreMiniblocks 32 (take k ws) bytes (take (32 * k) numbers) used) (32 * byte_len w * k) two new
    → Adds w (deltas_of least (take (block_count values at) numbers)) (take at values) (take (at + block_count values at) values) → PutDeltas w values at old new
block_put w values at k number least ws numbers old one two new size needed is head widths_count widths body added =
    let cnt = block_count values at in
    let k_is = (cnt + 31) / 32 in
    let few : 32 * k ≤ 128 = omega (arith, needed) in
    let numbers_are : take cnt (take (32 * k) numbers) ≡ take cnt numbers = take-take cnt (32 * k) numbers (omega (arith, needed)) in
    let whole = block_written least k (byte_len w) number ws numbers old one two new is head (widths_written ws one two widths_count widths) body in
    record {
      deltas = deltas_of least (take (32 * k) numbers);
      stands = subst (λ (i : ℕ). Appends (λ bytes used. IsBlock 4 32 i bytes (deltas_of least (take (32 * k) numbers)) used) (14 + 32 * byte_len w * i) old new) needed whole;
      count = length-map (take (32 * k) numbers) (λ x. least +ℤ pos x) ∙ length-take-le (32 * k) numbers (omega (arith, few, size)) ∙ ap (λ (i : ℕ). 32 * i) needed;
      added = subst (λ (ds : List ℤ). Adds w ds (take at values) (take (at + cnt) values)) (ap (deltas_of least) (sym numbers_are) ∙ sym (take-map (λ x. least +ℤ pos x) cnt (take (32 * k) numbers))) added;
    }
