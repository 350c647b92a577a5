-- What reading blocks gives.
use Rattle.std.proofs.Common.{◌≡◌, ℕ, ◌+◌, ◌-◌, ◌*◌, ◌<◌, ◌≤◌, min, List, [], ◌∷◌, ◌++◌, length, take, drop, refl, sym, ap, subst, ◌∙◌, arith, append_assoc}
use Rattle.std.specs.Prelude.{ℤ, pos, ◌+ℤ◌}
use Rattle.std.specs.Int.{Width, int_wrap}
use Rattle.std.proofs.lemmas.List.{take_all, length-append, length-drop, length-take, length-take-le, append-nil, drop-drop, length-map, take-append-drop}
use Rattle.std.proofs.Math.Nat.{add-mul}
use Rattle.std.proofs.lemmas.Int.{ints}
use Rattle.lists.proofs.Slices.{take_joined as take_both}
use Rattle.bits.specs.Codec.{NothingStands}
use Rattle.bits.proofs.Loops.{Continues}
use Rattle.bits.proofs.Loops as loops
use Rattle.delta.specs.Delta.{AreMiniblocks, IsBlock, AreBlocks, IsHeader, joined, sums, IsDelta}
use Rattle.delta.specs.inner.Taken.{IsTaken, AreNeeded}
use Rattle.delta.proofs.One.{one_block, one_header, one_needed}
use Rattle.delta.proofs.Sums.{length-sums, sums_front}
use Rattle.delta.proofs.Taking.{miniblock_within}

body_count : (s : ℕ) (ws bytes ns : List ℕ) (u : ℕ) → AreMiniblocks s ws bytes ns u → length ns ≡ length ws * s
body_count s [] bytes ns u p = ap length p.0 ∙ (let e : 0 ≡ 0 * s = omega arith in e)
body_count s (w ∷ ws) bytes ns u (here, others, i, j, is, more, ns_are, u_is) =
    omega (arith, ap length ns_are, length-append here others, is.count, body_count s ws (drop i bytes) others j more)

body_within : (s : ℕ) (ws bytes ns : List ℕ) (u : ℕ) → AreMiniblocks s ws bytes ns u → u ≤ length bytes
body_within s [] bytes ns u p = omega (arith, p.1)
body_within s (w ∷ ws) bytes ns u (here, others, i, j, is, more, ns_are, u_is) =
    omega (arith, u_is, miniblock_within s w i bytes here is, body_within s ws (drop i bytes) others j more, length-drop i bytes)

block_count : (m s k : ℕ) (bytes : List ℕ) (ds : List ℤ) (u : ℕ) → k ≤ m → IsBlock m s k bytes ds u → length ds ≡ k * s
block_count m s k bytes ds u few p =
    let widths = take m (drop p.at bytes) in
    let size : length widths ≡ m = length-take-le m (drop p.at bytes) (omega (arith, p.widths, length-drop p.at bytes)) in
    let needed : length (take k widths) ≡ k = length-take-le k widths (omega (arith, size)) in
    ap length p.stands_for ∙ length-map p.numbers (λ x. p.least +ℤ pos x) ∙ body_count s (take k widths) (drop (p.at + m) bytes) p.numbers p.body p.packed ∙ ap (λ (i : ℕ). i * s) needed

pub block_within : (m s k : ℕ) (bytes : List ℕ) (ds : List ℤ) (u : ℕ) → IsBlock m s k bytes ds u → u ≤ length bytes
block_within m s k bytes ds u p =
    omega (arith, p.ends, p.widths, body_within s (take k (take m (drop p.at bytes))) (drop (p.at + m) bytes) p.numbers p.body p.packed, length-drop (p.at + m) bytes)

blocks_count : (m s k : ℕ) (bytes : List ℕ) (blocks : List (List ℤ)) (u : ℕ) → AreBlocks m s k bytes blocks u → length (joined blocks) ≡ k * s
blocks_count m s k bytes [] u p = let e : 0 ≡ k * s = (let z : 0 ≡ 0 * s = omega arith in z) ∙ ap (λ (i : ℕ). i * s) (sym p.0) in e
blocks_count m s k bytes (ds ∷ blocks) u (i, j, some, is, more, u_is) =
    let here : length ds ≡ min m k * s = block_count m s (min m k) bytes ds i (omega arith) is in
    let others : length (joined blocks) ≡ (k - m) * s = blocks_count m s (k - m) (drop i bytes) blocks j more in
    let sum : min m k + (k - m) ≡ k = omega arith in
    length-append ds (joined blocks) ∙ (let e : length ds + length (joined blocks) ≡ min m k * s + (k - m) * s = omega (arith, here, others) in e) ∙ sym (add-mul (min m k) (k - m) s) ∙ ap (λ (i : ℕ). i * s) sum

pub joined_push : (front : List (List ℤ)) (ds : List ℤ) → joined (front ++ ds ∷ []) ≡ joined front ++ ds
joined_push [] ds = append-nil ds
joined_push (x ∷ front) ds = ap (λ (t : List ℤ). x ++ t) (joined_push front ds) ∙ sym (append_assoc x (joined front) ds)

-- blocks with all but the last `needed` miniblocks are read, up to `at`
pub record IsGathering (w : Width) (first : ℤ) (m s all n : ℕ) (body : List ℕ) (values : List ℤ) (needed at : ℕ) : Type 0 where
  pub front : List (List ℤ)
  pub so_far : Continues (λ (tail : List (List ℤ)) (v : ℕ). AreBlocks m s needed (drop at body) tail v) (AreBlocks m s all body) (λ (tail : List (List ℤ)). front ++ tail) at
  pub summed : values ≡ sums w first (take (n - 1) (joined front)) (length (take (n - 1) (joined front)) + 1)
  pub count : length values ≡ min (n - 1) (length (joined front)) + 1
  pub within : at ≤ length body

pub gathering_begins : (w : Width) (first start : ℤ) (m s all n : ℕ) (body : List ℕ) → start ≡ int_wrap w first → IsGathering w first m s all n body (start ∷ []) all 0
gathering_begins w first start m s all n body is =
    let none : take (n - 1) [] ≡ [] = take_all (n - 1) [] (omega arith) in
    record {
      front = [];
      so_far = loops.begins (AreBlocks m s all body);
      summed = subst (λ (ds : List ℤ). start ∷ [] ≡ sums w first ds (length ds + 1)) (sym none) (ap (λ (z : ℤ). z ∷ []) (is ∙ ap (int_wrap w) (sym (add_zero first))));
      count = omega arith;
      within = omega arith;
    }
  where
    add_zero : (z : ℤ) → z +ℤ pos 0 ≡ z
    add_zero z = omega (arith, ints)

step : (m s k : ℕ) (body : List ℕ) (at u : ℕ) (ds : List ℤ) → 0 < k → IsBlock m s (min m k) (drop at body) ds u
    → Continues (λ (tail : List (List ℤ)) (v : ℕ). AreBlocks m s (k - m) (drop (at + u) body) tail v) (λ (tail : List (List ℤ)) (v : ℕ). AreBlocks m s k (drop at body) tail v) (λ (tail : List (List ℤ)). ds ∷ tail) u
step m s k body at u ds some is = record {
  forward = λ tail v p. (u, v, some, is, subst (λ (b : List ℕ). AreBlocks m s (k - m) b tail v) (sym (drop-drop u at body)) p, refl);
  backward = λ whole v p. back whole v p;
}
  where
    back : (whole : List (List ℤ)) (v : ℕ) → AreBlocks m s k (drop at body) whole v
        → (tail : List (List ℤ)) × ((rest : ℕ) × AreBlocks m s (k - m) (drop (at + u) body) tail rest × (whole ≡ ds ∷ tail) × (v ≡ u + rest))
    back [] v p = absurd (omega (arith, p.0, some))
    back (es ∷ tail) v (i, rest, any, there, behind, v_is) =
        let o = one_block m s (min m k) (drop at body) es ds i u there is in
        (tail, (rest, subst (λ (b : List ℕ). AreBlocks m s (k - m) b tail rest) (ap (λ (n : ℕ). drop n (drop at body)) o.1 ∙ drop-drop u at body) behind, ap (λ (t : List ℤ). t ∷ tail) o.0, omega (arith, v_is, o.1)))

pub gathering_goes_on : (w : Width) (first : ℤ) (m s all n needed at left u : ℕ) (body : List ℕ) (mid new : List ℤ) → 0 < needed → left ≡ n - length mid → 0 < n
    → IsTaken (IsBlock m s (min m needed) (drop at body)) w left mid new u → IsGathering w first m s all n body mid needed at → IsGathering w first m s all n body new (needed - m) (at + u)
gathering_goes_on w first m s all n needed at left u body mid new some left_is any taken p =
    let ds = taken.deltas in
    let here = joined p.front in
    let Rest = λ (tail : List (List ℤ)) (v : ℕ). AreBlocks m s needed (drop at body) tail v in
    let After = λ (tail : List (List ℤ)) (v : ℕ). AreBlocks m s (needed - m) (drop (at + u) body) tail v in
    let c = loops.goes_on Rest After (AreBlocks m s all body) (λ (tail : List (List ℤ)). p.front ++ tail) (λ (tail : List (List ℤ)). ds ∷ tail) at u p.so_far (step m s needed body at u ds some taken.stand) in
    let inside = block_within m s (min m needed) (drop at body) ds u taken.stand in
    let rest : left ≡ n - 1 - length here = omega (arith, left_is, p.count) in
    let split : take (n - 1) (joined (p.front ++ ds ∷ [])) ≡ take (n - 1) here ++ take left ds =
    ap (λ (t : List ℤ). take (n - 1) t) (joined_push p.front ds) ∙ take_both (n - 1) here ds ∙ ap (λ (k : ℕ). take (n - 1) here ++ take k ds) (sym rest) in
    let added = taken.added first (take (n - 1) here) p.summed in
    let summed : new ≡ sums w first (take (n - 1) (joined (p.front ++ ds ∷ []))) (length (take (n - 1) (joined (p.front ++ ds ∷ []))) + 1) =
    subst (λ (t : List ℤ). new ≡ sums w first t (length t + 1)) (sym split) added in
    record {
      front = p.front ++ ds ∷ [];
      so_far = record {
        forward = λ tail v q. subst (λ (xs : List (List ℤ)). AreBlocks m s all body xs (at + u + v)) (sym (append_assoc p.front (ds ∷ []) tail)) (c.forward tail v q);
        backward = λ whole v q. let b = c.backward whole v q in (b.0, (b.1.0, b.1.1, b.1.2 ∙ sym (append_assoc p.front (ds ∷ []) b.0), b.1.3));
      };
      summed = summed;
      count = ap length summed ∙ length-sums w first (take (n - 1) (joined (p.front ++ ds ∷ []))) (length (take (n - 1) (joined (p.front ++ ds ∷ []))) + 1) ∙ ap (λ (k : ℕ). k + 1) (length-take (n - 1) (joined (p.front ++ ds ∷ [])));
      within = omega (arith, inside, length-drop at body, p.within);
    }

-- where no blocks stand, no values do
pub no_delta : (w : Width) (first : ℤ) (m s n all at : ℕ) (bytes : List ℕ) → IsHeader bytes m s n first at → AreNeeded n s all → NothingStands (AreBlocks m s all (drop at bytes)) → NothingStands (IsDelta w bytes n)
no_delta w first m s n all at bytes begins needed none values used p =
    let h = one_header bytes m s n first at p.miniblocks p.size n p.first p.at begins p.begins in
    let much : n ≤ p.needed * s + 1 = subst (λ (k : ℕ). n ≤ p.needed * k + 1) (sym h.size) p.enough in
    let least : (k : ℕ) → k < p.needed → k * s + 1 < n = subst (λ (t : ℕ). (k : ℕ) → k < p.needed → k * t + 1 < n) (sym h.size) p.fewest in
    let same : p.needed ≡ all = one_needed n s p.needed all much needed.enough least needed.fewest in
    let one : AreBlocks m p.size p.needed (drop p.at bytes) p.blocks p.body = subst (λ (k : ℕ). AreBlocks k p.size p.needed (drop p.at bytes) p.blocks p.body) (sym h.miniblocks) p.spelled in
    let two : AreBlocks m s p.needed (drop p.at bytes) p.blocks p.body = subst (λ (k : ℕ). AreBlocks m k p.needed (drop p.at bytes) p.blocks p.body) (sym h.size) one in
    let three : AreBlocks m s all (drop p.at bytes) p.blocks p.body = subst (λ (k : ℕ). AreBlocks m s k (drop p.at bytes) p.blocks p.body) same two in
    none p.blocks p.body (subst (λ (k : ℕ). AreBlocks m s all (drop k bytes) p.blocks p.body) (sym h.used) three)

-- the next block does not stand
pub gathering_fails : (w : Width) (first : ℤ) (m s all n needed at start : ℕ) (bytes : List ℕ) (mid : List ℤ) → 0 < needed → IsHeader bytes m s n first start → AreNeeded n s all
    → NothingStands (IsBlock m s (min m needed) (drop at (drop start bytes))) → IsGathering w first m s all n (drop start bytes) mid needed at → NothingStands (IsDelta w bytes n)
gathering_fails w first m s all n needed at start bytes mid some begins enough none p =
    no_delta w first m s n all start bytes begins enough
    (loops.none (λ (tail : List (List ℤ)) (v : ℕ). AreBlocks m s needed (drop at (drop start bytes)) tail v) (AreBlocks m s all (drop start bytes)) (λ (tail : List (List ℤ)). p.front ++ tail) at p.so_far nothing)
  where
    nothing : NothingStands (AreBlocks m s needed (drop at (drop start bytes)))
    nothing [] used q = omega (arith, q.0, some)
    nothing (ds ∷ blocks) used q = none ds q.0 q.3

-- what all blocks give
pub record IsGathered (w : Width) (bytes : List ℕ) (n : ℕ) (values : List ℤ) (used : ℕ) : Type 0 where
  pub stand : IsDelta w bytes n values used
  pub count : length values ≡ n

pub gathering_ends : (w : Width) (first : ℤ) (m s all n at start : ℕ) (bytes : List ℕ) (values : List ℤ) → 0 < n → IsHeader bytes m s n first start → AreNeeded n s all
    → IsGathering w first m s all n (drop start bytes) values 0 at → IsGathered w bytes n values (start + at)
gathering_ends w first m s all n at start bytes values some begins enough p =
    let body = drop start bytes in
    let stand : AreBlocks m s all body p.front at = subst (λ (xs : List (List ℤ)). AreBlocks m s all body xs at) (append-nil p.front)
    (loops.ends (λ (tail : List (List ℤ)) (v : ℕ). AreBlocks m s 0 (drop at body) tail v) (AreBlocks m s all body) (λ (tail : List (List ℤ)). p.front ++ tail) at [] p.so_far (refl, refl)) in
    let deltas = joined p.front in
    let size : length deltas ≡ all * s = blocks_count m s all body p.front at stand in
    let much : n - 1 ≤ length deltas = omega (arith, size, enough.enough) in
    let front = take (n - 1) deltas in
    let few : length front ≡ n - 1 = length-take-le (n - 1) deltas much in
    let count : length front + 1 ≡ n = omega (arith, few, some) in
    let whole : sums w first deltas n ≡ sums w first front n = ap (λ (ds : List ℤ). sums w first ds n) (sym (take-append-drop (n - 1) deltas)) ∙ sums_front w first front (drop (n - 1) deltas) n (omega (arith, count)) in
    let values_are : values ≡ sums w first deltas n = p.summed ∙ ap (λ (k : ℕ). sums w first front k) count ∙ sym whole in
    record {
      stand = record { miniblocks = m; size = s; needed = all; first = first; blocks = p.front; at = start; body = at; begins = begins; enough = enough.enough; fewest = enough.fewest; spelled = stand; stands_for = values_are; ends = refl };
      count = ap length values_are ∙ length-sums w first deltas n;
    }

-- no values
pub nothing_gathered : (w : Width) (first : ℤ) (m s n start : ℕ) (bytes : List ℕ) → n ≡ 0 → IsHeader bytes m s n first start → IsDelta w bytes n [] start
nothing_gathered w first m s n start bytes none begins = record {
  miniblocks = m;
  size = s;
  needed = 0;
  first = first;
  blocks = [];
  at = start;
  body = 0;
  begins = begins;
  enough = omega (arith, none);
  fewest = λ k lt. absurd (omega arith);
  spelled = (refl, refl);
  stands_for = ap (λ (k : ℕ). sums w first [] k) (sym none);
  ends = omega arith;
}
