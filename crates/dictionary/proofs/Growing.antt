-- The entries and indexes as one value comes after another.
use Rattle.std.proofs.Common.{◌≡◌, ℕ, ◌+◌, ◌<◌, ◌⊎◌, List, [], ◌∷◌, ◌++◌, length, map, Some, refl, sym, ap, subst, ◌∙◌, inl, inr, arith}
use Rattle.std.specs.Prelude.{slice_get, All, Contains}
use Rattle.std.proofs.lemmas.Option.{slice_get_within}
use Rattle.std.proofs.lemmas.List.{map-append, length-append, take-append-le, take_all}
use Rattle.lists.proofs.Slices.{slice_get_append as get_append}
use Rattle.schema.specs.Values.{ValueTree}
use Rattle.dictionary.specs.Entries.{AreDifferent, ComesInTurn, IsIndexed}
use Rattle.dictionary.specs.inner.Placing.{IsPlaced}
use Rattle.dictionary.proofs.Lookups.{not_some, get_last, get_pushed, contains_from_get, stand_again, indexes_within}

nat_case : (k n : ℕ) → k < n + 1 → (k < n) ⊎ (k ≡ n)
nat_case k n lt = grind arith

-- no values have no entries
pub none_indexed : IsIndexed [] [] []
none_indexed = record { stand = refl; once = λ i j v h k. absurd (not_some v h); in_order = λ k lt. absurd (omega arith) }

-- entries that are different stay so with another one
pub different_more : (es : List ValueTree) (v : ValueTree) → AreDifferent es → (Contains es v → ⊥) → AreDifferent (es ++ v ∷ [])
different_more es v different other i j w h k = by (get_pushed es v i w h) (get_pushed es v j w k)
  where
    by : (slice_get es i ≡ Some w) ⊎ ((i ≡ length es) × (v ≡ w)) → (slice_get es j ≡ Some w) ⊎ ((j ≡ length es) × (v ≡ w)) → i ≡ j
    by (inl a) (inl b) = different i j w a b
    by (inl a) (inr b) = absurd (other (contains_from_get es i v (a ∙ ap (λ u. Some u) (sym b.1))))
    by (inr a) (inl b) = absurd (other (contains_from_get es j v (b ∙ ap (λ u. Some u) (sym a.1))))
    by (inr a) (inr b) = a.0 ∙ sym b.0

-- an index that comes in turn still does where more indexes follow
turn_stays : (is js : List ℕ) (k : ℕ) → ComesInTurn is k → ComesInTurn (is ++ js) k
turn_stays is js k t =
    let within = slice_get_within is t.0 k t.1 in
    (t.0, get_append is js t.0 k t.1, subst (All (λ i. i < k)) (sym (take-append-le t.0 is js (omega arith))) t.2)

-- an index above all others comes in turn
turn_last : (is : List ℕ) (k : ℕ) → All (λ i. i < k) is → ComesInTurn (is ++ k ∷ []) k
turn_last is k below =
    (length is, get_last is k, subst (All (λ i. i < k)) (sym (take-append-le (length is) is (k ∷ []) (omega arith) ∙ take_all (length is) is (omega arith))) below)

-- each entry stays at its index
entries_stay : (es : List ValueTree) (v : ValueTree) (at : ℕ) (new : List ValueTree) → IsPlaced es v at new → (i : ℕ) (w : ValueTree) → slice_get es i ≡ Some w → slice_get new i ≡ Some w
entries_stay es v at new p i w h = by p.grown
  where
    by : (new ≡ es) ⊎ ((Contains es v → ⊥) × (new ≡ es ++ v ∷ [])) → slice_get new i ≡ Some w
    by (inl same) = ap (λ l. slice_get l i) same ∙ h
    by (inr more) = ap (λ l. slice_get l i) more.1 ∙ get_append es (v ∷ []) i w h

-- one more value
pub indexed_more : (vs es : List ValueTree) (is : List ℕ) (v : ValueTree) (at : ℕ) (new : List ValueTree) → IsIndexed vs es is → IsPlaced es v at new → IsIndexed (vs ++ v ∷ []) new (is ++ at ∷ [])
indexed_more vs es is v at new p q = record {
  stand = map-append (slice_get new) is (at ∷ []) ∙ both (stand_again (slice_get es) (slice_get new) (entries_stay es v at new q) is vs p.stand) ∙ sym (map-append (λ w. Some w) vs (v ∷ []));
  once = once_by q.grown;
  in_order = order_by q.grown;
}
  where
    both : map (slice_get new) is ≡ map (λ w. Some w) vs → map (slice_get new) is ++ slice_get new at ∷ [] ≡ map (λ w. Some w) vs ++ Some v ∷ []
    both h = λ j. h j ++ q.there j ∷ []

    once_by : (new ≡ es) ⊎ ((Contains es v → ⊥) × (new ≡ es ++ v ∷ [])) → AreDifferent new
    once_by (inl same) = subst AreDifferent (sym same) p.once
    once_by (inr more) = subst AreDifferent (sym more.1) (different_more es v p.once more.0)

    last : (k : ℕ) → k ≡ length es → (Contains es v → ⊥) → new ≡ es ++ v ∷ [] → at ≡ k
    last k size other is_new = by (get_pushed es v at v (ap (λ l. slice_get l at) (sym is_new) ∙ q.there))
      where
        by : (slice_get es at ≡ Some v) ⊎ ((at ≡ length es) × (v ≡ v)) → at ≡ k
        by (inl there) = absurd (other (contains_from_get es at v there))
        by (inr there) = there.0 ∙ sym size

    order_by : (new ≡ es) ⊎ ((Contains es v → ⊥) × (new ≡ es ++ v ∷ [])) → (k : ℕ) → k < length new → ComesInTurn (is ++ at ∷ []) k
    order_by (inl same) k lt = turn_stays is (at ∷ []) k (p.in_order k (subst (λ (l : List ValueTree). k < length l) same lt))
    order_by (inr more) k lt = by (nat_case k (length es) (omega (arith, ap length more.1, length-append es (v ∷ []))))
      where
        by : (k < length es) ⊎ (k ≡ length es) → ComesInTurn (is ++ at ∷ []) k
        by (inl below) = turn_stays is (at ∷ []) k (p.in_order k below)
        by (inr size) = subst (λ (a : ℕ). ComesInTurn (is ++ a ∷ []) k) (sym (last k size more.0 more.1)) (turn_last is k (subst (λ (m : ℕ). All (λ i. i < m) is) (sym size) (indexes_within es is vs p.stand)))
