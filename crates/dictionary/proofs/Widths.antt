-- The least width of some indexes.
use Rattle.std.proofs.Common.{◌≡◌, ℕ, suc, ◌+◌, ◌*◌, ◌^◌, ◌<◌, ◌≤◌, List, [], ◌∷◌, ◌++◌, max, ◌⊎◌, inl, inr, Some, refl, subst, arith, pow-suc}
use Rattle.std.specs.Int.Count.{count_leading_zeros}
use Rattle.std.proofs.lemmas.Nat.{leading_length}
use Rattle.std.proofs.lemmas.List.Elements.{All-push, All-nil, All-pop}
use Rattle.bits.proofs.Varints.{pow_le}
use Rattle.dictionary.specs.IndexPages.{IsLeastWidth}

-- the number of bits of a number holds it, and no fewer do
pub record HasBits (n bits : ℕ) : Type 0 where
  pub holds : n < 2 ^ bits
  pub least : (w : ℕ) → n < 2 ^ w → bits ≤ w

le_or : (a b : ℕ) → (a ≤ b) ⊎ (suc b ≤ a)
le_or a b = grind arith

pub bits_are : (n leading bits : ℕ) → n < 2 ^ 32 → leading ≡ count_leading_zeros 32 n → bits + leading ≡ 32 → HasBits n bits
bits_are n leading bits lt is sum =
    let m = leading_length 32 n lt in
    let same : m.0 ≡ bits = omega (arith, is, sum, m.1) in
    let below : n < 2 ^ bits = subst (λ (k : ℕ). n < 2 ^ k) same m.2 in
    let above : 2 ^ bits ≤ 2 * n + 1 = subst (λ (k : ℕ). 2 ^ k ≤ 2 * n + 1) same m.3 in
    record { holds = below; least = λ w h. by w h above (le_or bits w) }
  where
    by : (w : ℕ) → n < 2 ^ w → 2 ^ bits ≤ 2 * n + 1 → (bits ≤ w) ⊎ (suc w ≤ bits) → bits ≤ w
    by w h above (inl le) = le
    by w h above (inr gt) =
        let more : 2 ^ suc w ≤ 2 ^ bits = pow_le (suc w) bits gt in
        let twice : 2 ^ suc w ≡ 2 * 2 ^ w = rw pow-suc (omega arith) in
        absurd (omega (arith, h, above, more, twice))

pub width_more : (is : List ℕ) (i width bits new : ℕ) → new ≡ max width bits → HasBits i bits → IsLeastWidth width is → IsLeastWidth new (is ++ i ∷ [])
width_more is i width bits new is_max p q =
    let wider : 2 ^ width ≤ 2 ^ new = pow_le width new (omega (arith, is_max)) in
    let holds : 2 ^ bits ≤ 2 ^ new = pow_le bits new (omega (arith, is_max)) in (
      All-push (λ k. k < 2 ^ new) is i (λ k d lt. let small = q.0 k d lt in omega (arith, small, wider)) (omega (arith, p.holds, holds)),
      omega (arith, is_max, q.1),
      λ w some all. let parts = All-pop (λ k. k < 2 ^ w) (is ++ i ∷ []) is (Some i) refl all in
          let first = q.2 w some parts.0 in
          let last = p.least w parts.1 in
          omega (arith, is_max, first, last),
    )

-- no indexes need one bit
pub none_wide : IsLeastWidth 1 []
none_wide = (All-nil (λ k. k < 2 ^ 1), omega arith, λ w some all. some)
