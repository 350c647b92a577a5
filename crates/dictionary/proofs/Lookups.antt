-- What stands at an index of a list.
use Rattle.std.proofs.Common.{◌≡◌, ℕ, zero, suc, ◌<◌, ◌≤◌, ◌⊎◌, List, [], ◌∷◌, ◌++◌, length, map, drop, Option, None, Some, refl, sym, ap, ◌∙◌, inl, inr, arith}
use Rattle.std.specs.Prelude.{slice_get, All, is_some, Contains}
use Rattle.std.proofs.lemmas.Bool.{false≢true}
use Rattle.std.proofs.lemmas.Option.{slice_get_within, get_or_from_slice_get, slice_get-get_or, same_Some as some_is}
use Rattle.std.proofs.lemmas.List.Elements.{All-nil, All-cons}
use Rattle.lists.proofs.Lists.{same_first as first_is, same_rest as rest_is}
use Rattle.schema.specs.Values.{ValueTree}
use Rattle.dictionary.specs.Entries.{AreEntriesAt}

pub not_some : {X : Type 0} (x : X) → None ≡ Some x → ⊥
not_some x h = false≢true (ap is_some h)

pub get_last : {X : Type 0} (xs : List X) (x : X) → slice_get (xs ++ x ∷ []) (length xs) ≡ Some x
get_last [] x = refl
get_last (z ∷ xs) x = get_last xs x

pub get_pushed : {X : Type 0} (xs : List X) (x : X) (i : ℕ) (y : X) → slice_get (xs ++ x ∷ []) i ≡ Some y → (slice_get xs i ≡ Some y) ⊎ ((i ≡ length xs) × (x ≡ y))
get_pushed [] x zero y h = inr (refl, some_is x y h)
get_pushed [] x (suc i) y h = absurd (not_some y h)
get_pushed (z ∷ xs) x zero y h = inl h
get_pushed (z ∷ xs) x (suc i) y h = next (get_pushed xs x i y h)
  where
    next : (slice_get xs i ≡ Some y) ⊎ ((i ≡ length xs) × (x ≡ y)) → (slice_get xs i ≡ Some y) ⊎ ((suc i ≡ suc (length xs)) × (x ≡ y))
    next (inl there) = inl there
    next (inr last) = inr (ap suc last.0, last.1)

pub contains_from_get : {X : Type 0} (xs : List X) (i : ℕ) (x : X) → slice_get xs i ≡ Some x → Contains xs x
contains_from_get xs i x h = (i, slice_get_within xs i x h, get_or_from_slice_get xs i x x h)

pub get_from_contains : {X : Type 0} (xs : List X) (x : X) → Contains xs x → (i : ℕ) × (slice_get xs i ≡ Some x)
get_from_contains xs x c = (c.0, slice_get-get_or xs c.0 x c.1 ∙ ap (λ y. Some y) c.2)

pub no_cons : {X : Type 0} (x : X) (xs : List X) → [] ≡ x ∷ xs → ⊥
no_cons x xs h = let e : 0 ≡ suc (length xs) = ap length h in omega arith

-- where each entry stays at its index, each index stands for the same value
pub stand_again : (f g : ℕ → Option ValueTree) → ((i : ℕ) (v : ValueTree) → f i ≡ Some v → g i ≡ Some v) → (is : List ℕ) (vs : List ValueTree) → map f is ≡ map (λ v. Some v) vs → map g is ≡ map (λ v. Some v) vs
stand_again f g stays [] [] h = refl
stand_again f g stays [] (v ∷ vs) h = absurd (no_cons (Some v) (map (λ w. Some w) vs) h)
stand_again f g stays (i ∷ is) [] h = absurd (no_cons (f i) (map f is) (sym h))
stand_again f g stays (i ∷ is) (v ∷ vs) h =
    let first = stays i v (first_is (f i) (Some v) (map f is) (map (λ w. Some w) vs) h) in
    let rest = stand_again f g stays is vs (rest_is (f i) (Some v) (map f is) (map (λ w. Some w) vs) h) in
    λ j. first j ∷ rest j

-- the indexes of values are below the number of entries
pub indexes_within : (es : List ValueTree) (is : List ℕ) (vs : List ValueTree) → AreEntriesAt es is vs → All (λ i. i < length es) is
indexes_within es [] vs h = All-nil (λ i. i < length es)
indexes_within es (i ∷ is) [] h = absurd (no_cons (slice_get es i) (map (slice_get es) is) (sym h))
indexes_within es (i ∷ is) (v ∷ vs) h =
    All-cons (λ k. k < length es) i is (slice_get_within es i v (first_is (slice_get es i) (Some v) (map (slice_get es) is) (map (λ w. Some w) vs) h))
    (indexes_within es is vs (rest_is (slice_get es i) (Some v) (map (slice_get es) is) (map (λ w. Some w) vs) h))

-- the value at a place is the entry at the index there
pub value_at : (es : List ValueTree) (is : List ℕ) (vs : List ValueTree) → AreEntriesAt es is vs → (p i : ℕ) (v : ValueTree) → slice_get is p ≡ Some i → slice_get es i ≡ Some v → slice_get vs p ≡ Some v
value_at es [] vs h p i v at e = absurd (not_some i at)
value_at es (j ∷ is) [] h p i v at e = absurd (no_cons (slice_get es j) (map (slice_get es) is) (sym h))
value_at es (j ∷ is) (w ∷ vs) h zero i v at e =
    sym (first_is (slice_get es j) (Some w) (map (slice_get es) is) (map (λ u. Some u) vs) h) ∙ ap (slice_get es) (some_is j i at) ∙ e
value_at es (j ∷ is) (w ∷ vs) h (suc p) i v at e =
    value_at es is vs (rest_is (slice_get es j) (Some w) (map (slice_get es) is) (map (λ u. Some u) vs) h) p i v at e

-- each value is an entry
pub entry_of : (es : List ValueTree) (is : List ℕ) (vs : List ValueTree) → AreEntriesAt es is vs → (p : ℕ) (v : ValueTree) → slice_get vs p ≡ Some v → (i : ℕ) × (slice_get es i ≡ Some v)
entry_of es is [] h p v at = absurd (not_some v at)
entry_of es [] (w ∷ vs) h p v at = absurd (no_cons (Some w) (map (λ u. Some u) vs) h)
entry_of es (j ∷ is) (w ∷ vs) h zero v at = (j, first_is (slice_get es j) (Some w) (map (slice_get es) is) (map (λ u. Some u) vs) h ∙ at)
entry_of es (j ∷ is) (w ∷ vs) h (suc p) v at =
    entry_of es is vs (rest_is (slice_get es j) (Some w) (map (slice_get es) is) (map (λ u. Some u) vs) h) p v at

-- entries at indexes are determined
pub one_value_each : (es : List ValueTree) (is : List ℕ) (vs ws : List ValueTree) → AreEntriesAt es is vs → AreEntriesAt es is ws → vs ≡ ws
one_value_each es is vs ws h k = some_each vs ws (sym h ∙ k)
  where
    some_each : (vs ws : List ValueTree) → map (λ v. Some v) vs ≡ map (λ v. Some v) ws → vs ≡ ws
    some_each [] [] h = refl
    some_each [] (w ∷ ws) h = absurd (no_cons (Some w) (map (λ u. Some u) ws) h)
    some_each (v ∷ vs) [] h = absurd (no_cons (Some v) (map (λ u. Some u) vs) (sym h))
    some_each (v ∷ vs) (w ∷ ws) h =
        let first = some_is v w (first_is (Some v) (Some w) (map (λ u. Some u) vs) (map (λ u. Some u) ws) h) in
        let rest = some_each vs ws (rest_is (Some v) (Some w) (map (λ u. Some u) vs) (map (λ u. Some u) ws) h) in
        λ j. first j ∷ rest j

-- entries that were looked up one after another, to the last
pub all_looked_up : {X : Type 0} (f : X → ValueTree) (items : List X) (es : List ValueTree) (is : List ℕ) (k : ℕ) → length is ≤ k
    → map (λ v. Some (f v)) items ++ map (slice_get es) (drop k is) ≡ map (slice_get es) is → AreEntriesAt es is (map f items)
all_looked_up {X = X} f items es is k all h =
    sym h ∙ ap (λ l. map (λ v. Some (f v)) items ++ map (slice_get es) l) (drop_whole k is all) ∙ no_more items
  where
    drop_whole : (k : ℕ) (is : List ℕ) → length is ≤ k → drop k is ≡ []
    drop_whole zero [] all = refl
    drop_whole zero (i ∷ is) all = absurd (omega arith)
    drop_whole (suc k) [] all = refl
    drop_whole (suc k) (i ∷ is) all = drop_whole k is (omega arith)

    no_more : (xs : List X) → map (λ v. Some (f v)) xs ++ [] ≡ map (λ w. Some w) (map f xs)
    no_more [] = refl
    no_more (x ∷ xs) = ap (λ l. Some (f x) ∷ l) (no_more xs)
