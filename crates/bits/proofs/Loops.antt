-- A reader's loop: what stands in the rest completes to the whole, and what stands in the whole leaves such a rest.
use Rattle.std.proofs.Common.{◌≡◌, ℕ, ◌+◌, refl, subst, ◌∙◌, arith}
use Rattle.bits.specs.Codec.{NothingStands}

-- `at` bytes are read; what they stand for is what `join` puts before the rest
pub record Continues {Tail Whole : Type 0} (Rest : Tail → ℕ → Type 0) (All : Whole → ℕ → Type 0) (join : Tail → Whole) (at : ℕ) : Type 0 where
  pub forward : (tail : Tail) (used : ℕ) → Rest tail used → All (join tail) (at + used)
  pub backward : (whole : Whole) (used : ℕ) → All whole used → (tail : Tail) × ((rest : ℕ) × Rest tail rest × (whole ≡ join tail) × (used ≡ at + rest))

-- nothing is read
pub begins : {Whole : Type 0} (All : Whole → ℕ → Type 0) → Continues All All (λ whole. whole) 0
begins All = record {
  forward = λ tail used stands. subst (λ (n : ℕ). All tail n) (let e : used ≡ 0 + used = omega arith in e) stands;
  backward = λ whole used stands. (whole, (used, stands, refl, omega arith));
}

-- one more is read
pub goes_on : {Tail Next Whole : Type 0} (Rest : Tail → ℕ → Type 0) (After : Next → ℕ → Type 0) (All : Whole → ℕ → Type 0) (join : Tail → Whole) (cons : Next → Tail) (at used : ℕ)
    → Continues Rest All join at → Continues After Rest cons used → Continues After All (λ next. join (cons next)) (at + used)
goes_on {Tail} {Next} {Whole} Rest After All join cons at used so_far one = record {
  forward = λ next v stands. subst (λ (n : ℕ). All (join (cons next)) n) (let e : at + (used + v) ≡ at + used + v = omega arith in e) (so_far.forward (cons next) (used + v) (one.forward next v stands));
  backward = λ whole v stands. back whole v (so_far.backward whole v stands);
}
  where
    back : (whole : Whole) (v : ℕ) → (tail : Tail) × ((rest : ℕ) × Rest tail rest × (whole ≡ join tail) × (v ≡ at + rest))
        → (next : Next) × ((rest : ℕ) × After next rest × (whole ≡ join (cons next)) × (v ≡ at + used + rest))
    back whole v (tail, (rest, stands, is, total)) = further (one.backward tail rest stands)
      where
        further : (next : Next) × ((left : ℕ) × After next left × (tail ≡ cons next) × (rest ≡ used + left))
            → (next : Next) × ((left : ℕ) × After next left × (whole ≡ join (cons next)) × (v ≡ at + used + left))
        further (next, (left, after, is_next, sum)) = (next, (left, after, is ∙ subst (λ (t : Tail). join tail ≡ join t) is_next refl, omega (arith, total, sum)))

-- nothing is left to read
pub ends : {Tail Whole : Type 0} (Rest : Tail → ℕ → Type 0) (All : Whole → ℕ → Type 0) (join : Tail → Whole) (at : ℕ) (tail : Tail)
    → Continues Rest All join at → Rest tail 0 → All (join tail) at
ends Rest All join at tail so_far empty = subst (λ (n : ℕ). All (join tail) n) (let e : at + 0 ≡ at = omega arith in e) (so_far.forward tail 0 empty)

-- nothing stands in the rest
pub none : {Tail Whole : Type 0} (Rest : Tail → ℕ → Type 0) (All : Whole → ℕ → Type 0) (join : Tail → Whole) (at : ℕ)
    → Continues Rest All join at → NothingStands Rest → NothingStands All
none Rest All join at so_far nothing = λ whole used stands. let b = so_far.backward whole used stands in nothing b.0 b.1.0 b.1.1
