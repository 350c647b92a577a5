-- Texts cut before the first place of a byte.
use Rattle.std.proofs.Common.{◌≡◌, ℕ, zero, suc, ◌-◌, ◌<◌, ◌≤◌, List, [], ◌∷◌, ◌++◌, length, get_or, take, drop, refl, ap, sym, subst, ◌∙◌, arith}
use Rattle.std.specs.List.{AllByRecursion}
use Rattle.std.proofs.lemmas.List.{take-append-drop, append-nil}
use Rattle.partition.specs.inner.Reading.{Begins, HasNo, IsCutBefore}

none_before : (b : ℕ) (text : List ℕ) (i : ℕ) → ((k : ℕ) → k < i → get_or text k 0 ≡ b → ⊥) → i ≤ length text → AllByRecursion (HasNo b) (take i text)
none_before b text zero h k = tt
none_before b [] (suc i) h k = absurd (omega (arith, k))
none_before b (c ∷ text) (suc i) h k = (h 0 (omega arith), none_before b text i (λ j less. h (suc j) (omega (arith, less))) (omega (arith, k)))

begins_at : (b : ℕ) (text : List ℕ) (i : ℕ) → i < length text → get_or text i 0 ≡ b → Begins b (drop i text)
begins_at b [] i h e = absurd (omega (arith, h))
begins_at b (c ∷ text) zero h e = e
begins_at b (c ∷ text) (suc i) h e = begins_at b text i (omega (arith, h)) e

pub cut_at : (b : ℕ) (text first after : List ℕ) (i : ℕ) → i < length text → get_or text i 0 ≡ b → ((k : ℕ) → k < i → get_or text k 0 ≡ b → ⊥) → first ≡ take i text → after ≡ drop i text → IsCutBefore b text first after
cut_at b text first after i h e none p q =
    rw (p, q) (record { whole = take-append-drop i text; before = none_before b text i none (omega (arith, h)); from = begins_at b text i h e })

whole_take : (text : List ℕ) (n : ℕ) → length text ≤ n → take n text ≡ text
whole_take [] zero h = refl
whole_take [] (suc n) h = refl
whole_take (c ∷ text) zero h = absurd (omega (arith, h))
whole_take (c ∷ text) (suc n) h = ap (λ (rest : List ℕ). c ∷ rest) (whole_take text n (omega (arith, h)))

-- the byte is nowhere
pub cut_nowhere : (b : ℕ) (text first after : List ℕ) (i : ℕ) → length text ≤ i → i ≤ length text → ((k : ℕ) → k < i → get_or text k 0 ≡ b → ⊥) → first ≡ text → after ≡ [] → IsCutBefore b text first after
cut_nowhere b text first after i h k none p q =
    rw (p, q) (record { whole = append-nil text; before = subst (AllByRecursion (HasNo b)) (whole_take text i h) (none_before b text i none k); from = tt })

heads : (a b : ℕ) (x y : List ℕ) → a ∷ x ≡ b ∷ y → a ≡ b
heads a b x y h = cc

tails : (a b : ℕ) (x y : List ℕ) → a ∷ x ≡ b ∷ y → x ≡ y
tails a b x y h = cc

-- a text is cut in one way
pub one_cut : (b : ℕ) (first other x y : List ℕ) → AllByRecursion (HasNo b) first → AllByRecursion (HasNo b) other → Begins b x → Begins b y → first ++ x ≡ other ++ y → (first ≡ other) × (x ≡ y)
one_cut b [] [] x y p q e f h = (refl, h)
one_cut b [] (c ∷ other) [] y p q e f h = cc
one_cut b [] (c ∷ other) (d ∷ x) y p q e f h = absurd (q.0 (sym (heads _ _ _ _ h) ∙ e))
one_cut b (c ∷ first) [] x [] p q e f h = cc
one_cut b (c ∷ first) [] x (d ∷ y) p q e f h = absurd (p.0 (heads _ _ _ _ h ∙ f))
one_cut b (c ∷ first) (d ∷ other) x y p q e f h =
    let more = one_cut b first other x y p.1 q.1 e f (tails _ _ _ _ h) in
    ((λ i. heads _ _ _ _ h i ∷ more.0 i), more.1)

pub nothing_after : (text : List ℕ) → take (length text - length text) (drop (length text) text) ≡ []
nothing_after text = let e : length text - length text ≡ 0 = omega arith in rw e refl
