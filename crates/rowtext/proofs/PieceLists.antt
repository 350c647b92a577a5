-- Lists of which a few take no allocation.
use Rattle.std.proofs.Common.{◌≡◌, ℕ, ◌+◌, ◌<◌, ◌≤◌, List, [], ◌∷◌, ◌++◌, length, take, get_or, slice_set, Option, Some, None, is_some, false, true≢false, refl, sym, ap, subst, ◌∙◌, arith, get_or-take, length-take-le}
use Rattle.std.proofs.Math.Seq.{take-set-lt}
use Rattle.std.proofs.lemmas.Bool.Decides.{nat_tests}
use Rattle.std.proofs.lemmas.List.{take_more_set}
use Rattle.rowtext.specs.inner.PieceLists.{held}

pub held_few : {A : Type 0} → (n : ℕ) (few many : List A) → n ≤ 8 → held n few many ≡ take n few
held_few n few many le = grind (arith, nat_tests)

pub held_many : {A : Type 0} → (n : ℕ) (few many : List A) → 8 < n → held n few many ≡ many
held_many n few many lt = grind (arith, nat_tests)

-- one of the few more
pub few_more : {A : Type 0} → (n : ℕ) (few many : List A) (p : A) → n < 8 → length few ≡ 8 → held (n + 1) (slice_set few n p) many ≡ held n few many ++ p ∷ []
few_more n few many p lt long =
    held_few (n + 1) (slice_set few n p) many (omega arith) ∙ take_more_set few n p (omega (arith, long)) ∙ ap (λ t. t ++ p ∷ []) (sym (held_few n few many (omega arith)))

nothing : {A : Type 0} → (k : Option A) → is_some k ≡ false → k ≡ None
nothing None h = refl
nothing (Some a) h = absurd (true≢false h)

-- a place of the few that had nothing
pub few_noted : {A : Type 0} → (n i : ℕ) (few many : List (Option A)) (a : A) → n ≤ 8 → length few ≡ 8 → i < n → is_some (get_or few i None) ≡ false
    → (i < length (held n few many)) × ((get_or (held n few many) i None ≡ None) × (held n (slice_set few i (Some a)) many ≡ slice_set (held n few many) i (Some a)))
few_noted n i few many a le long less none =
    let here : held n few many ≡ take n few = held_few n few many le in
    let within : i < length (take n few) = let e = length-take-le n few (omega (arith, le, long)) in omega (arith, e, less) in
    let empty : get_or (take n few) i None ≡ None = get_or-take n few i None less ∙ nothing (get_or few i None) none in
    let put : held n (slice_set few i (Some a)) many ≡ slice_set (take n few) i (Some a) = held_few n (slice_set few i (Some a)) many le ∙ take-set-lt n few i (Some a) less in
    subst (λ xs. (i < length xs) × ((get_or xs i None ≡ None) × (held n (slice_set few i (Some a)) many ≡ slice_set xs i (Some a)))) (sym here) (within, (empty, put))
