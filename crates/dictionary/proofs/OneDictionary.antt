-- A list of values has at most one list of entries, and at most one list of indexes.
use Rattle.std.proofs.Common.{◌≡◌, ℕ, zero, suc, ◌<◌, ◌≤◌, List, [], ◌∷◌, length, map, take, Some, refl, sym, ap, subst, ◌∙◌, arith}
use Rattle.std.specs.Prelude.{slice_get, All}
use Rattle.std.proofs.lemmas.Option.{slice_get_within, same_Some as some_is}
use Rattle.std.proofs.lemmas.List.Elements.{All-head, All-tail}
use Rattle.lists.proofs.Lists.{same_first as first_is, same_rest as rest_is}
use Rattle.schema.specs.Values.{ValueTree}
use Rattle.dictionary.specs.Entries.{AreDifferent, AreEntriesAt, IsIndexed}
use Rattle.dictionary.proofs.Lookups.{not_some, no_cons, value_at}

-- what all before a place have, one that stands there has
in_taken : (P : ℕ → Type 0) (xs : List ℕ) (i n x : ℕ) → slice_get xs i ≡ Some x → i < n → All P (take n xs) → P x
in_taken P [] i n x h lt all = absurd (not_some x h)
in_taken P (y ∷ xs) i zero x h lt all = absurd (omega arith)
in_taken P (y ∷ xs) zero (suc n) x h lt all = subst P (some_is y x h) (All-head P y (take n xs) all)
in_taken P (y ∷ xs) (suc i) (suc n) x h lt all = in_taken P xs i n x h (omega arith) (All-tail P y (take n xs) all)

-- the index at a value's place stands for it
index_at : (es : List ValueTree) (is : List ℕ) (vs : List ValueTree) → AreEntriesAt es is vs → (p : ℕ) (v : ValueTree) → slice_get vs p ≡ Some v → (i : ℕ) × (slice_get is p ≡ Some i) × (slice_get es i ≡ Some v)
index_at es is [] h p v at = absurd (not_some v at)
index_at es [] (w ∷ vs) h p v at = absurd (no_cons (Some w) (map (λ u. Some u) vs) h)
index_at es (j ∷ is) (w ∷ vs) h zero v at = (j, refl, first_is (slice_get es j) (Some w) (map (slice_get es) is) (map (λ u. Some u) vs) h ∙ at)
index_at es (j ∷ is) (w ∷ vs) h (suc p) v at = index_at es is vs (rest_is (slice_get es j) (Some w) (map (slice_get es) is) (map (λ u. Some u) vs) h) p v at

some_entry : (es : List ValueTree) (k : ℕ) → k < length es → (v : ValueTree) × (slice_get es k ≡ Some v)
some_entry [] k lt = absurd (omega arith)
some_entry (e ∷ es) zero lt = (e, refl)
some_entry (e ∷ es) (suc k) lt = some_entry es k (omega arith)

-- the entries below k of the one list are those of the other
abbrev AgreeBelow : ℕ → List ValueTree → List ValueTree → Type 0
AgreeBelow k es fs = (i : ℕ) (v : ValueTree) → i < k → slice_get es i ≡ Some v → slice_get fs i ≡ Some v

data Order (m n : ℕ) : Type 0 where
  below : m < n → Order m n
  above : n < m → Order m n
  same : m ≡ n → Order m n

order_of : (m n : ℕ) → Order m n
order_of zero zero = same refl
order_of zero (suc n) = below (omega arith)
order_of (suc m) zero = above (omega arith)
order_of (suc m) (suc n) = next (order_of m n)
  where
    next : Order m n → Order (suc m) (suc n)
    next (below lt) = below (omega arith)
    next (above gt) = above (omega arith)
    next (same e) = same (ap suc e)

next_agrees : (vs es fs : List ValueTree) (is js : List ℕ) → IsIndexed vs es is → IsIndexed vs fs js → (k : ℕ) → AgreeBelow k es fs → AgreeBelow k fs es → (v : ValueTree) → slice_get es k ≡ Some v → slice_get fs k ≡ Some v
next_agrees vs es fs is js p q k there back v h =
    let t = p.in_order k (slice_get_within es k v h) in
    let value = value_at es is vs p.stand t.0 k v t.1 h in
    let j = index_at fs js vs q.stand t.0 v value in
    by t.0 t.1 t.2 j.0 j.1 j.2 (order_of j.0 k)
  where
    at_place : (at : ℕ) → slice_get is at ≡ Some k → All (λ i. i < k) (take at is) → (j : ℕ) → slice_get js at ≡ Some j → slice_get fs j ≡ Some v → k ≤ j
        → (other : ℕ) → slice_get js other ≡ Some k → All (λ i. i < k) (take other js) → (w : ValueTree) → slice_get fs k ≡ Some w → Order at other → slice_get fs k ≡ Some v
    at_place at is_k lower j js_j fs_j le other js_k others w fs_k (below lt) =
        let bad : j < k = in_taken (λ i. i < k) js at other j js_j lt others in absurd (omega arith)
    at_place at is_k lower j js_j fs_j le other js_k others w fs_k (above gt) =
        let i = index_at es is vs p.stand other w (value_at fs js vs q.stand other k w js_k fs_k) in
        let lt : i.0 < k = in_taken (λ n. n < k) is other at i.0 i.1 gt lower in
        let e : i.0 ≡ k = q.once i.0 k w (there i.0 w lt i.2) fs_k in
        absurd (omega (arith, lt, e))
    at_place at is_k lower j js_j fs_j le other js_k others w fs_k (same e) =
        let one : j ≡ k = some_is j k (sym js_j ∙ ap (slice_get js) e ∙ js_k) in
        subst (λ (n : ℕ). slice_get fs n ≡ Some v) one fs_j

    in_turn : (at : ℕ) → slice_get is at ≡ Some k → All (λ i. i < k) (take at is) → (j : ℕ) → slice_get js at ≡ Some j → slice_get fs j ≡ Some v → k ≤ j → slice_get fs k ≡ Some v
    in_turn at is_k lower j js_j fs_j le =
        let lt : j < length fs = slice_get_within fs j v fs_j in
        let u = q.in_order k (omega (arith, lt, le)) in
        let w = some_entry fs k (omega (arith, lt, le)) in
        at_place at is_k lower j js_j fs_j le u.0 u.1 u.2 w.0 w.1 (order_of at u.0)

    by : (at : ℕ) → slice_get is at ≡ Some k → All (λ i. i < k) (take at is) → (j : ℕ) → slice_get js at ≡ Some j → slice_get fs j ≡ Some v → Order j k → slice_get fs k ≡ Some v
    by at is_k lower j js_j fs_j (below lt) =
        let e : j ≡ k = p.once j k v (back j v lt fs_j) h in absurd (omega (arith, lt, e))
    by at is_k lower j js_j fs_j (above gt) = in_turn at is_k lower j js_j fs_j (omega arith)
    by at is_k lower j js_j fs_j (same e) = subst (λ (n : ℕ). slice_get fs n ≡ Some v) e fs_j

all_agree : (vs es fs : List ValueTree) (is js : List ℕ) → IsIndexed vs es is → IsIndexed vs fs js → (k : ℕ) → AgreeBelow k es fs × AgreeBelow k fs es
all_agree vs es fs is js p q zero = (λ i v lt h. absurd (omega arith), λ i v lt h. absurd (omega arith))
all_agree vs es fs is js p q (suc k) =
    let known = all_agree vs es fs is js p q k in
    (more es fs known.0 (next_agrees vs es fs is js p q k known.0 known.1), more fs es known.1 (next_agrees vs fs es js is q p k known.1 known.0))
  where
    more : (xs ys : List ValueTree) → AgreeBelow k xs ys → ((v : ValueTree) → slice_get xs k ≡ Some v → slice_get ys k ≡ Some v) → AgreeBelow (suc k) xs ys
    more xs ys known next i v lt h = by (order_of i k)
      where
        by : Order i k → slice_get ys i ≡ Some v
        by (below less) = known i v less h
        by (above gt) = absurd (omega (arith, lt, gt))
        by (same e) = ap (slice_get ys) e ∙ next v (ap (slice_get xs) (sym e) ∙ h)

same_lists : (es fs : List ValueTree) → ((i : ℕ) (v : ValueTree) → slice_get es i ≡ Some v → slice_get fs i ≡ Some v) → ((i : ℕ) (v : ValueTree) → slice_get fs i ≡ Some v → slice_get es i ≡ Some v) → es ≡ fs
same_lists [] [] there back = refl
same_lists [] (f ∷ fs) there back = absurd (not_some f (back 0 f refl))
same_lists (e ∷ es) [] there back = absurd (not_some e (there 0 e refl))
same_lists (e ∷ es) (f ∷ fs) there back =
    let first : e ≡ f = sym (some_is f e (there 0 e refl)) in
    let rest = same_lists es fs (λ i v h. there (suc i) v h) (λ i v h. back (suc i) v h) in
    λ j. first j ∷ rest j

same_indexes : (es : List ValueTree) → AreDifferent es → (vs : List ValueTree) (is js : List ℕ) → AreEntriesAt es is vs → AreEntriesAt es js vs → is ≡ js
same_indexes es once [] [] [] h k = refl
same_indexes es once [] (i ∷ is) js h k = absurd (no_cons (slice_get es i) (map (slice_get es) is) (sym h))
same_indexes es once [] [] (j ∷ js) h k = absurd (no_cons (slice_get es j) (map (slice_get es) js) (sym k))
same_indexes es once (v ∷ vs) [] js h k = absurd (no_cons (Some v) (map (λ u. Some u) vs) h)
same_indexes es once (v ∷ vs) (i ∷ is) [] h k = absurd (no_cons (Some v) (map (λ u. Some u) vs) k)
same_indexes es once (v ∷ vs) (i ∷ is) (j ∷ js) h k =
    let first = once i j v (first_is (slice_get es i) (Some v) (map (slice_get es) is) (map (λ u. Some u) vs) h) (first_is (slice_get es j) (Some v) (map (slice_get es) js) (map (λ u. Some u) vs) k) in
    let rest = same_indexes es once vs is js (rest_is (slice_get es i) (Some v) (map (slice_get es) is) (map (λ u. Some u) vs) h) (rest_is (slice_get es j) (Some v) (map (slice_get es) js) (map (λ u. Some u) vs) k) in
    λ n. first n ∷ rest n

pub one_indexing : (vs es fs : List ValueTree) (is js : List ℕ) → IsIndexed vs es is → IsIndexed vs fs js → (es ≡ fs) × (is ≡ js)
one_indexing vs es fs is js p q =
    let entries = same_lists es fs
    (λ i v h. (all_agree vs es fs is js p q (suc i)).0 i v (omega arith) h)
    (λ i v h. (all_agree vs es fs is js p q (suc i)).1 i v (omega arith) h) in
    (entries, same_indexes es p.once vs is js p.stand (subst (λ (l : List ValueTree). AreEntriesAt l js vs) (sym entries) q.stand))
