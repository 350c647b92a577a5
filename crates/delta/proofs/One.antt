-- A front of the bytes stands for at most one list of numbers.
use Rattle.std.proofs.Common.{◌≡◌, ℕ, zero, suc, ◌+◌, ◌-◌, ◌*◌, ◌<◌, ◌≤◌, min, List, [], ◌∷◌, ◌++◌, get_or, take, drop, map, refl, sym, ap, subst, ◌∙◌, arith, inl, inr}
use Rattle.std.specs.Prelude.{ℤ, pos, ◌+ℤ◌}
use Rattle.std.specs.Int.{Width}
use Rattle.std.proofs.lemmas.Bool.{cases_lt}
use Rattle.std.proofs.Math.Nat.{eq_of_mul-eq-mul_left}
use Rattle.bits.specs.Varint.{IsUleb, zigzag_of}
use Rattle.bits.specs.Codec.{IsFunctional}
use Rattle.bits.proofs.Facts.{one_uleb, one_zigzag, one_packing}
use Rattle.bits.proofs.Turns.{one_turn}
use Rattle.delta.specs.Delta.{IsMiniblock, AreMiniblocks, IsBlock, AreBlocks, IsHeader, joined, sums, IsDelta}

pub one_miniblock : (size width : ℕ) (bytes xs ys : List ℕ) (u v : ℕ) → IsMiniblock size width bytes xs u → IsMiniblock size width bytes ys v → (xs ≡ ys) × (u ≡ v)
one_miniblock size width bytes xs ys u v p q = (one_packing bytes xs ys width (p.count ∙ sym q.count) p.packed q.packed, omega (arith, p.ends, q.ends))

pub one_body : (size : ℕ) (widths bytes xs ys : List ℕ) (u v : ℕ) → AreMiniblocks size widths bytes xs u → AreMiniblocks size widths bytes ys v → (xs ≡ ys) × (u ≡ v)
one_body size [] bytes xs ys u v p q = (p.0 ∙ sym q.0, p.1 ∙ sym q.1)
one_body size (w ∷ ws) bytes xs ys u v (a, b, i, j, is, more, xs_are, u_is) (c, d, k, l, there, others, ys_are, v_is) =
    let o = one_miniblock size w bytes a c i k is there in
    let m = one_body size ws (drop i bytes) b d j l more (subst (λ (n : ℕ). AreMiniblocks size ws (drop n bytes) d l) (sym o.1) others) in
    (xs_are ∙ ap (λ (t : List ℕ). t ++ b) o.0 ∙ ap (λ (t : List ℕ). c ++ t) m.0 ∙ sym ys_are, omega (arith, u_is, v_is, o.1, m.1))

pub one_block : (m s k : ℕ) (bytes : List ℕ) (xs ys : List ℤ) (u v : ℕ) → IsBlock m s k bytes xs u → IsBlock m s k bytes ys v → (xs ≡ ys) × (u ≡ v)
one_block m s k bytes xs ys u v p q =
    let h = one_uleb bytes (zigzag_of p.least) (zigzag_of q.least) p.at q.at p.says q.says in
    let least : p.least ≡ q.least = one_zigzag p.least q.least h.0 in
    let moved : AreMiniblocks s (take k (take m (drop p.at bytes))) (drop (p.at + m) bytes) q.numbers q.body =
    subst (λ (n : ℕ). AreMiniblocks s (take k (take m (drop n bytes))) (drop (n + m) bytes) q.numbers q.body) (sym h.1) q.packed in
    let b = one_body s (take k (take m (drop p.at bytes))) (drop (p.at + m) bytes) p.numbers q.numbers p.body q.body p.packed moved in
    (p.stands_for ∙ ap (λ (z : ℤ). map (λ x. z +ℤ pos x) p.numbers) least ∙ ap (λ (ns : List ℕ). map (λ x. q.least +ℤ pos x) ns) b.0 ∙ sym q.stands_for, omega (arith, p.ends, q.ends, h.1, b.1))

pub one_spelling : (m s k : ℕ) (bytes : List ℕ) (xs ys : List (List ℤ)) (u v : ℕ) → AreBlocks m s k bytes xs u → AreBlocks m s k bytes ys v → (xs ≡ ys) × (u ≡ v)
one_spelling m s k bytes [] [] u v p q = (refl, p.1 ∙ sym q.1)
one_spelling m s k bytes [] (y ∷ ys) u v p q = absurd (omega (arith, p.0, q.2))
one_spelling m s k bytes (x ∷ xs) [] u v p q = absurd (omega (arith, q.0, p.2))
one_spelling m s k bytes (x ∷ xs) (y ∷ ys) u v (a, b, some, is, more, u_is) (c, d, any, there, others, v_is) =
    let o = one_block m s (min m k) bytes x y a c is there in
    let r = one_spelling m s (k - m) (drop a bytes) xs ys b d more (subst (λ (n : ℕ). AreBlocks m s (k - m) (drop n bytes) ys d) (sym o.1) others) in
    (cc (o.0, r.0), omega (arith, u_is, v_is, o.1, r.1))

-- what two headers at one place share
pub record SameHeader (m s n : ℕ) (first : ℤ) (u k t o : ℕ) (start : ℤ) (v : ℕ) : Type 0 where
  pub miniblocks : m ≡ k
  pub size : s ≡ t
  pub count : n ≡ o
  pub first_is : first ≡ start
  pub used : u ≡ v

same_factor : (m s t : ℕ) → 0 < m * s → m * s ≡ m * t → s ≡ t
same_factor zero s t some same = absurd (omega (arith, some))
same_factor (suc k) s t some same = eq_of_mul-eq-mul_left (suc k) (omega arith) s t same

pub one_header : (bytes : List ℕ) (m s n : ℕ) (first : ℤ) (u k t o : ℕ) (start : ℤ) (v : ℕ) → IsHeader bytes m s n first u → IsHeader bytes k t o start v → SameHeader m s n first u k t o start v
one_header bytes m s n first u k t o start v p q =
    let same = one_turn IsUleb one_uleb 4 bytes (m * s ∷ m ∷ n ∷ zigzag_of first ∷ []) (k * t ∷ k ∷ o ∷ zigzag_of start ∷ []) u v (refl, p.says) (refl, q.says) in
    let block : m * s ≡ k * t = ap (λ (xs : List ℕ). get_or xs 0 0) same.0 in
    let parts : m ≡ k = ap (λ (xs : List ℕ). get_or xs 1 0) same.0 in
    record {
      miniblocks = parts;
      size = same_factor m s t p.some (block ∙ ap (λ (x : ℕ). x * t) (sym parts));
      count = ap (λ (xs : List ℕ). get_or xs 2 0) same.0;
      first_is = one_zigzag first start (ap (λ (xs : List ℕ). get_or xs 3 0) same.0);
      used = same.1;
    }

pub one_needed : (n size k l : ℕ) → n ≤ k * size + 1 → n ≤ l * size + 1 → ((i : ℕ) → i < k → i * size + 1 < n) → ((i : ℕ) → i < l → i * size + 1 < n) → k ≡ l
one_needed n size k l enough much fewest least =
    elim (cases_lt k l) [
      | inl lt ↦ absurd (omega (arith, least k lt))
      | inr le ↦ elim (cases_lt l k) [
        | inl lt ↦ absurd (omega (arith, fewest l lt))
        | inr ge ↦ omega arith
      ]
    ]

pub one_delta : (w : Width) (n : ℕ) → IsFunctional (λ bytes. IsDelta w bytes n)
one_delta w n = λ bytes xs ys u v p q. at_one w n bytes xs ys u v p q (one_header bytes p.miniblocks p.size n p.first p.at q.miniblocks q.size n q.first q.at p.begins q.begins)
  where
    at_one : (w : Width) (n : ℕ) (bytes : List ℕ) (xs ys : List ℤ) (u v : ℕ) (p : IsDelta w bytes n xs u) (q : IsDelta w bytes n ys v)
        → SameHeader p.miniblocks p.size n p.first p.at q.miniblocks q.size n q.first q.at → (xs ≡ ys) × (u ≡ v)
    at_one w n bytes xs ys u v p q h =
        let much : n ≤ q.needed * p.size + 1 = subst (λ (s : ℕ). n ≤ q.needed * s + 1) (sym h.size) q.enough in
        let least : (k : ℕ) → k < q.needed → k * p.size + 1 < n = subst (λ (s : ℕ). (k : ℕ) → k < q.needed → k * s + 1 < n) (sym h.size) q.fewest in
        let needed : p.needed ≡ q.needed = one_needed n p.size p.needed q.needed p.enough much p.fewest least in
        let one : AreBlocks q.miniblocks p.size p.needed (drop p.at bytes) p.blocks p.body = subst (λ (m : ℕ). AreBlocks m p.size p.needed (drop p.at bytes) p.blocks p.body) h.miniblocks p.spelled in
        let two : AreBlocks q.miniblocks q.size p.needed (drop p.at bytes) p.blocks p.body = subst (λ (s : ℕ). AreBlocks q.miniblocks s p.needed (drop p.at bytes) p.blocks p.body) h.size one in
        let three : AreBlocks q.miniblocks q.size q.needed (drop p.at bytes) p.blocks p.body = subst (λ (k : ℕ). AreBlocks q.miniblocks q.size k (drop p.at bytes) p.blocks p.body) needed two in
        let four : AreBlocks q.miniblocks q.size q.needed (drop q.at bytes) p.blocks p.body = subst (λ (a : ℕ). AreBlocks q.miniblocks q.size q.needed (drop a bytes) p.blocks p.body) h.used three in
        let b = one_spelling q.miniblocks q.size q.needed (drop q.at bytes) p.blocks q.blocks p.body q.body four q.spelled in
        (p.stands_for ∙ ap (λ (z : ℤ). sums w z (joined p.blocks) n) h.first_is ∙ ap (λ (bs : List (List ℤ)). sums w q.first (joined bs) n) b.0 ∙ sym q.stands_for, omega (arith, p.ends, q.ends, h.used, b.1))
