-- How many different values there are.
use Rattle.std.proofs.Common.{◌≡◌, ℕ, zero, suc, ◌<◌, ◌≤◌, ◌⊎◌, List, [], ◌∷◌, ◌++◌, length, map, get_or, Bool, true, false, Some, refl, sym, ap, subst, ◌∙◌, inl, inr, arith}
use Rattle.std.specs.Prelude.{slice_get, All, Contains}
use Rattle.std.specs.List.{IsDistinct, AllByRecursion, list_any}
use Rattle.std.proofs.Math.Dec.{eqb}
use Rattle.std.proofs.lemmas.Bool.{eqb-true}
use Rattle.std.proofs.lemmas.Option.{slice_get_within}
use Rattle.std.proofs.lemmas.List.{length-append, length-map}
use Rattle.std.proofs.lemmas.List.Elements.{All-head, All-tail}
use Rattle.std.proofs.lemmas.Map.Steps.{length-le_from_distinct_below}
use Rattle.lists.proofs.Slices.{slice_get_append as get_append}
use Rattle.lists.proofs.Lists.{same_first as first_is, same_rest as rest_is}
use Rattle.indexmap.proofs.CallerLemmas.{Contains-list_any}
use Rattle.schema.specs.Values.{ValueTree}
use Rattle.dictionary.specs.Entries.{AreDifferent, AreEntriesAt, IsIndexed, AreMoreThan}
use Rattle.dictionary.specs.inner.Placing.{IsFull}
use Rattle.dictionary.proofs.Lookups.{get_pushed, contains_from_get, get_from_contains, indexes_within, value_at, entry_of, no_cons}
use Rattle.dictionary.proofs.Growing.{different_more}

-- an entry is one of the values
pub entry_comes : (vs es : List ValueTree) (is : List ℕ) → IsIndexed vs es is → (k : ℕ) (v : ValueTree) → slice_get es k ≡ Some v → Contains vs v
entry_comes vs es is p k v h =
    let t = p.in_order k (slice_get_within es k v h) in
    contains_from_get vs t.0 v (value_at es is vs p.stand t.0 k v t.1 h)

-- a value that no more room is for shows that there are too many
pub too_many : (n : ℕ) (vs done rest es : List ValueTree) (is : List ℕ) (v : ValueTree) → vs ≡ done ++ v ∷ rest → IsIndexed done es is → IsFull n es v → AreMoreThan n vs
too_many n vs done rest es is v joined p q = record {
  some = es ++ v ∷ [];
  many = omega (arith, length-append es (v ∷ []), q.full);
  among = λ k d lt. among_at k (get_or (es ++ v ∷ []) k d) (get_there (es ++ v ∷ []) k d lt);
  different = different_more es v p.once q.other;
}
  where
    get_there : (xs : List ValueTree) (k : ℕ) (d : ValueTree) → k < length xs → slice_get xs k ≡ Some (get_or xs k d)
    get_there [] k d lt = absurd (omega arith)
    get_there (x ∷ xs) zero d lt = refl
    get_there (x ∷ xs) (suc k) d lt = get_there xs k d (omega arith)

    at_seam : (xs : List ValueTree) → slice_get (xs ++ v ∷ rest) (length xs) ≡ Some v
    at_seam [] = refl
    at_seam (x ∷ xs) = at_seam xs

    among_at : (k : ℕ) (w : ValueTree) → slice_get (es ++ v ∷ []) k ≡ Some w → Contains vs w
    among_at k w h = by (get_pushed es v k w h)
      where
        by : (slice_get es k ≡ Some w) ⊎ ((k ≡ length es) × (v ≡ w)) → Contains vs w
        by (inl there) =
            let c = get_from_contains done w (entry_comes done es is p k w there) in
            contains_from_get vs c.0 w (ap (λ l. slice_get l c.0) joined ∙ get_append done (v ∷ rest) c.0 w c.1)
        by (inr last) = contains_from_get vs (length done) w (ap (λ l. slice_get l (length done)) joined ∙ at_seam done ∙ ap (λ u. Some u) last.1)

-- an index that stands for a value is none of those that stand for other values
apart : (es : List ValueTree) (v : ValueTree) (j : ℕ) → slice_get es j ≡ Some v → (vs : List ValueTree) (js : List ℕ) → AreEntriesAt es js vs → ((p : ℕ) → slice_get vs p ≡ Some v → ⊥) → AllByRecursion (λ y. eqb j y ≡ false) js
apart es v j e vs [] h none = tt
apart es v j e [] (y ∷ js) h none = absurd (no_cons (slice_get es y) (map (slice_get es) js) (sym h))
apart es v j e (w ∷ vs) (y ∷ js) h none = (by (eqb j y) refl, apart es v j e vs js (rest_is (slice_get es y) (Some w) (map (slice_get es) js) (map (λ u. Some u) vs) h) (λ p k. none (suc p) k))
  where
    by : (b : Bool) → eqb j y ≡ b → eqb j y ≡ false
    by false is = is
    by true is = absurd (none 0 (sym (first_is (slice_get es y) (Some w) (map (slice_get es) js) (map (λ u. Some u) vs) h) ∙ ap (slice_get es) (sym (eqb-true j y is)) ∙ e))

-- the indexes of different entries are different
distinct_indexes : (es : List ValueTree) (vs : List ValueTree) (js : List ℕ) → AreEntriesAt es js vs → AreDifferent vs → IsDistinct eqb js
unfolding IsDistinct
distinct_indexes es vs [] h different = tt
distinct_indexes es [] (y ∷ js) h different = absurd (no_cons (slice_get es y) (map (slice_get es) js) (sym h))
distinct_indexes es (w ∷ vs) (y ∷ js) h different =
    let first = first_is (slice_get es y) (Some w) (map (slice_get es) js) (map (λ u. Some u) vs) h in
    let rest = rest_is (slice_get es y) (Some w) (map (slice_get es) js) (map (λ u. Some u) vs) h in
    (apart es w y first vs js rest (λ p k. no_suc p (different 0 (suc p) w refl k)), distinct_indexes es vs js rest (λ i j v a b. suc_is i j (different (suc i) (suc j) v a b)))
  where
    no_suc : (p : ℕ) → 0 ≡ suc p → ⊥
    no_suc p e = omega arith

    suc_is : (i j : ℕ) → suc i ≡ suc j → i ≡ j
    suc_is i j e = omega arith

-- some of the values have indexes
indexes_for : (vs es : List ValueTree) (is : List ℕ) → AreEntriesAt es is vs → (some : List ValueTree) → All (Contains vs) some → (js : List ℕ) × AreEntriesAt es js some
indexes_for vs es is h [] among = ([], refl)
indexes_for vs es is h (w ∷ ws) among =
    let at = get_from_contains vs w (All-head (Contains vs) w ws among) in
    let j = entry_of es is vs h at.0 w at.1 in
    let more = indexes_for vs es is h ws (All-tail (Contains vs) w ws among) in
    (j.0 ∷ more.0, λ k. j.1 k ∷ more.1 k)

-- there are no more different values than entries
pub not_more : (n : ℕ) (vs es : List ValueTree) (is : List ℕ) → IsIndexed vs es is → length es ≤ n → AreMoreThan n vs → ⊥
not_more n vs es is p few q =
    let js = indexes_for vs es is p.stand q.some q.among in
    let below = indexes_within es js.0 q.some js.1 in
    let size : length js.0 ≡ length q.some = sym (length-map js.0 (slice_get es)) ∙ ap length js.1 ∙ length-map q.some (λ u. Some u) in
    let most : length js.0 ≤ length es = length-le_from_distinct_below js.0 (length es) (distinct_indexes es q.some js.0 js.1 q.different) (λ k h. is_below js.0 (length es) below k h) in
    omega (arith, size, most, q.many)
  where
    is_below : (js : List ℕ) (m : ℕ) → All (λ i. i < m) js → (k : ℕ) → list_any (eqb k) js ≡ true → k < m
    is_below js m below k h =
        let c = Contains-list_any eqb eqb-true js k h in
        subst (λ (i : ℕ). i < m) c.2 (below c.0 k c.1)
