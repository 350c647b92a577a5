-- Rows that are with their keys, the keys sorted, are split.
use Rattle.std.proofs.Common.{◌≡◌, ◌≢◌, ℕ, zero, suc, ◌<◌, Bool, true, false, List, [], ◌∷◌, length, get_or, map, sym, subst, ◌∙◌, arith, add-one}
use Rattle.std.specs.Prelude.{cond, filter, Contains}
use Rattle.std.specs.List.{AllByRecursion, IsDistinct}
use Rattle.std.specs.List.Sorted.{IsPermutation, IsSortedBy}
use Rattle.std.specs.Ordering.{is_lt}
use Rattle.std.proofs.lemmas.Bool.{false≢true}
use Rattle.std.proofs.lemmas.List.Sorted.{Contains-permutation, IsPermutation-map}
use Rattle.std.proofs.lemmas.Map.Keys.{IsDistinct-IsPermutation}
use Rattle.lists.proofs.Lists.{all_permuted as moved, all_weaker_on as all_map}
use Rattle.schema.specs.Values.{ValueTree, ValueTrees}
use Rattle.schema.specs.Views.{key_view}
use Rattle.schema.specs.Keys.{KeyColumn, key_of_row, row_without_keys}
use Rattle.partition.specs.declared.splitting.KeyRows.{KeyRows as CodeKeyRows}
use Rattle.partition.specs.Folders.{is_key, CanPartition}
use Rattle.partition.specs.Order.{key_cmp, is_same_key, AreAscending}
use Rattle.partition.specs.Splitting.{KeyRows, key_rows_view, has_key, rows_with, IsSplit}
use Rattle.partition.specs.inner.Parts.{AreDifferent, AreWithKeys}
use Rattle.partition.proofs.SameKeys.{key_same, key_flips, key_below}

abbrev keys : List KeyRows → List (List ValueTree)
keys parts = map (λ (p : KeyRows). p.key) parts

abbrev views : List CodeKeyRows → List KeyRows
views parts = map key_rows_view parts

-- ---- other orders of the same parts

to_distinct : (ks : List (List ValueTree)) → AreDifferent ks → IsDistinct is_same_key ks
unfolding IsDistinct
to_distinct [] h = tt
to_distinct (k ∷ ks) h = (h.0, to_distinct ks h.1)

from_distinct : (ks : List (List ValueTree)) → IsDistinct is_same_key ks → AreDifferent ks
unfolding IsDistinct
from_distinct [] h = tt
from_distinct (k ∷ ks) h = (h.0, from_distinct ks h.1)

-- ---- a key that a row has is the key of a row

no_end : (b : Bool) (r : ValueTrees) (l : List ValueTrees) (f : ValueTrees → ValueTrees) → b ≡ true → map f (cond b (r ∷ l) l) ≢ []
no_end true r l f h = λ e. cc
no_end false r l f h = absurd (false≢true h)

filled : (columns : List KeyColumn) (k : List ValueTree) (rows : List ValueTrees) (i : ℕ) → i < length (map (key_of_row columns) rows) → get_or (map (key_of_row columns) rows) i k ≡ k → is_same_key k k ≡ true
    → rows_with columns k rows ≢ []
filled columns k [] i h e same = absurd (omega (arith, h))
filled columns k (row ∷ rows) zero h e same =
    no_end (has_key columns k row) row (filter (has_key columns k) rows) (row_without_keys columns) (subst (λ l. is_same_key l k ≡ true) (sym e) same)
filled columns k (row ∷ rows) (suc i) h e same = by (has_key columns k row) (filled columns k rows i (omega (arith, h)) e same)
  where
    by : (b : Bool) → rows_with columns k rows ≢ [] → map (row_without_keys columns) (cond b (row ∷ filter (has_key columns k) rows) (filter (has_key columns k) rows)) ≢ []
    by true n = λ e. cc
    by false n = n

full : (columns : List KeyColumn) (rows : List ValueTrees) (parts : List KeyRows) → AllByRecursion (λ (p : KeyRows). CanPartition columns p.key × (p.rows ≡ rows_with columns p.key rows)) parts
    → AllByRecursion (λ k. Contains (map (key_of_row columns) rows) k) (keys parts)
    → AllByRecursion (λ (p : KeyRows). CanPartition columns p.key × (p.rows ≡ rows_with columns p.key rows) × (p.rows ≢ [])) parts
full columns rows [] each used = tt
full columns rows (p ∷ parts) each used =
    let there = used.0 in
    ((each.0.0, each.0.1, λ e. filled columns p.key rows there.0 there.1 there.2 (key_same columns p.key each.0.0.values) (sym each.0.1 ∙ e)), full columns rows parts each.1 used.1)

are_keys : (columns : List KeyColumn) (rows : List ValueTrees) (parts : List KeyRows) → AllByRecursion (λ (p : KeyRows). CanPartition columns p.key × (p.rows ≡ rows_with columns p.key rows)) parts
    → AllByRecursion (λ k. is_key columns k ≡ true) (keys parts)
are_keys columns rows [] h = tt
are_keys columns rows (p ∷ parts) h = (h.0.0.values, are_keys columns rows parts h.1)

-- ---- sorted keys are ascending

abbrev pub before : CodeKeyRows → CodeKeyRows → Bool
before x y = is_lt (key_cmp (key_view x.key) (key_view y.key))

ascending : (columns : List KeyColumn) (xs : List CodeKeyRows) → ((k : ℕ) (d : CodeKeyRows) → suc k < length xs → before (get_or xs (suc k) d) (get_or xs k d) ≡ false)
    → AllByRecursion (λ k. is_key columns k ≡ true) (keys (views xs)) → AreDifferent (keys (views xs)) → AreAscending (keys (views xs))
ascending columns [] up all d = tt
ascending columns (x ∷ []) up all d = tt
ascending columns (x ∷ y ∷ xs) up all d =
    (key_below columns (key_view x.key) (key_view y.key) all.0 all.1.0 d.0.0 (up 0 x (omega arith)), ascending columns (y ∷ xs) (λ k e h. up (suc k) e (omega (arith, h))) all.1 d.1)

pub split_is : (columns : List KeyColumn) (rows : List ValueTrees) (old new : List CodeKeyRows) → AreWithKeys columns rows (views old) → IsPermutation old new → IsSortedBy before new → IsSplit columns rows (views new)
split_is columns rows old new h moves sorted =
    let parts = IsPermutation-map key_rows_view old new moves in
    let names = IsPermutation-map (λ (p : KeyRows). p.key) (views old) (views new) parts in
    let each = moved (λ (p : KeyRows). CanPartition columns p.key × (p.rows ≡ rows_with columns p.key rows)) (views old) (views new) parts h.each in
    let used = moved (λ k. Contains (map (key_of_row columns) rows) k) (keys (views old)) (keys (views new)) names h.used in
    let different = from_distinct (keys (views new)) (IsDistinct-IsPermutation is_same_key key_flips (keys (views old)) (keys (views new)) names (to_distinct (keys (views old)) h.different)) in
    record {
      ascending = ascending columns new (λ k d less. subst (λ n. before (get_or new n d) (get_or new k d) ≡ false) (add-one k) (sorted k d (omega arith) (omega (arith, less)))) (are_keys columns rows (views new) each) different;
      each = full columns rows (views new) each used;
      every = all_map (λ row. Contains (keys (views old)) (key_of_row columns row)) (λ row. Contains (keys (views new)) (key_of_row columns row)) rows (λ row c. Contains-permutation (keys (views old)) (keys (views new)) (key_of_row columns row) names c) h.every;
    }
