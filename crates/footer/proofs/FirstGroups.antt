-- How many of the first groups have so many rows.
use Rattle.std.proofs.Common.{◌≡◌, ◌<◌, ◌≤◌, ℕ, zero, suc, ◌+◌, ◌-◌, List, [], ◌∷◌, length, map, take, drop, get_or, refl, sym, ap, subst, ◌∙◌, arith}
use Rattle.std.proofs.Math.ListN.{drop_of_length-le}
use Rattle.std.proofs.Math.Seq.{drop-cons}
use Rattle.std.proofs.lemmas.List.{length-map, take_all}
use Rattle.metadata.specs.Records.{GroupMeta}
use Rattle.footer.specs.FirstRows.{counted, first_groups}

-- one group more: with it, the first ones of the groups after it are first ones
pub one_group_more : {X : Type 0} (f : X → GroupMeta) (xs : List X) (i : ℕ) (x : X) (left : ℕ) → i < length xs → x ≡ get_or xs i x → (left ≡ 0 → ⊥) → (n : ℕ)
    → take n (map f (drop (i + 1) xs)) ≡ first_groups (left - counted (f x).num_rows) (map f (drop (i + 1) xs)) → take (n + 1) (map f (drop i xs)) ≡ first_groups left (map f (drop i xs))
one_group_more f xs i x zero within is some n p = absurd (some refl)
one_group_more {X = X} f xs i x (suc left) within is some n p =
    let after : suc i ≡ i + 1 = omega arith in
    let next : drop (suc i) xs ≡ drop (i + 1) xs = ap (λ (n : ℕ). drop n xs) after in
    let split : drop i xs ≡ x ∷ drop (i + 1) xs = drop-cons xs i x within ∙ ap (λ (t : List X). get_or xs i x ∷ t) next ∙ ap (λ (y : X). y ∷ drop (i + 1) xs) (sym is) in
    let one : suc n ≡ n + 1 = omega arith in
    subst (λ (k : ℕ). take k (map f (drop i xs)) ≡ first_groups (suc left) (map f (drop i xs))) one
    (subst (λ (t : List X). take (suc n) (map f t) ≡ first_groups (suc left) (map f t)) (sym split) (ap (λ (t : List GroupMeta). f x ∷ t) p))

-- of no groups none are first
pub none_first : (left : ℕ) → [] ≡ first_groups left []
none_first zero = refl
none_first (suc left) = refl

-- behind the last group there are none
pub none_after : {X : Type 0} (f : X → GroupMeta) (xs : List X) (i left : ℕ) → length xs ≤ i → take 0 (map f (drop i xs)) ≡ first_groups left (map f (drop i xs))
none_after {X = X} f xs i left past = subst (λ (t : List X). take 0 (map f t) ≡ first_groups left (map f t)) (sym (drop_of_length-le xs past)) (none_first left)

-- as many as there are take all, as any number beyond does
pub all_taken : {X : Type 0} (f : X → GroupMeta) (xs : List X) (i count : ℕ) → length xs ≤ i → take i (map f xs) ≡ first_groups count (map f xs) → take (length xs) (map f xs) ≡ first_groups count (map f xs)
all_taken f xs i count past p =
    let size = length-map xs f in
    take_all (length xs) (map f xs) (omega (arith, size)) ∙ sym (take_all i (map f xs) (omega (arith, past, size))) ∙ p
