-- The groups of rows, in their order.
use Rattle.std.proofs.Common.{◌≡◌, ◌≢◌, ℕ, zero, suc, ◌<◌, Bool, true, false, List, [], ◌∷◌, ◌++◌, inl, inr, length, get_or, map, refl, ap, sym, subst, ◌∙◌, arith, add-one}
use Rattle.std.specs.Prelude.{cond, filter, Contains, nat_lt, ◌⊎◌}
use Rattle.std.specs.List.{AllByRecursion, IsDistinct}
use Rattle.std.specs.List.Retain.{ReturnsInTurn, IsFiltered}
use Rattle.std.specs.List.Sorted.{IsPermutation, IsSortedBy}
use Rattle.std.specs.List.{items_where_true}
use Rattle.std.specs.Ordering.{is_lt}
use Rattle.std.proofs.lemmas.Bool.{false≢true, lt-ltb}
use Rattle.std.proofs.lemmas.List.Sorted.{Contains-permutation, IsPermutation-map}
use Rattle.std.proofs.lemmas.Map.Keys.{IsDistinct-IsPermutation}
use Rattle.lists.proofs.Lists.{all_permuted as moved, all_weaker_on as all_map}
use Rattle.schema.specs.Shape.{Fields}
use Rattle.schema.specs.Values.{ValueTree, ValueTrees}
use Rattle.schema.specs.Views.{key_view}
use Rattle.schema.specs.Keys.{KeyColumn, key_of_row}
use Rattle.shred.specs.Buffer.{holds}
use Rattle.partition.specs.Folders.{CanPartition}
use Rattle.partition.specs.Order.{key_cmp, is_same_key, AreAscending}
use Rattle.partition.specs.Splitting.{KeyRows}
use Rattle.partition.specs.inner.Parts.{AreDifferent}
use Rattle.partition.proofs.SameKeys.{key_flips, key_below}
use Rattle.gather.specs.declared.key_buffer.KeyBuffer.{KeyBuffer}
use Rattle.gather.specs.Groups.{waiting_rows, full_groups}
use Rattle.gather.specs.Buffers.{keys_of}
use Rattle.gather.specs.KeyBuffers.{HoldsRows, HoldEach, AreWaiting, Hold, HoldGroups}

abbrev Key : Type 0
Key = List ValueTree

abbrev Held : Type 0
Held = Key → List ValueTrees

-- ---- buffers without rows are left out

-- rows wait in the buffer
abbrev some_wait : Held → KeyBuffer → Bool
some_wait held b = nat_lt 0 (length (held (key_view b.key)))

module _ {P : Type 0} (R : P → KeyBuffer → Bool → P → Type 0) (says : (p : P) (b : KeyBuffer) (t : Bool) (q : P) → R p b t q → (rows : List ValueTrees) → holds b.rows rows → t ≡ nat_lt 0 (length rows)) where
  told : (fs : Fields) (held : Held) (p q : P) (ts : List Bool) (bs : List KeyBuffer) → length ts ≡ length bs → ReturnsInTurn R p ts bs q → HoldEach fs held bs → items_where_true ts bs ≡ filter (some_wait held) bs
  told fs held p q [] [] long turns each = refl
  told fs held p q [] (b ∷ bs) long turns each = absurd (omega (arith, long))
  told fs held p q (t ∷ ts) [] long turns each = absurd turns
  told fs held p q (t ∷ ts) (b ∷ bs) long turns each =
      by t (says p b t turns.0 turns.1 (held (key_view b.key)) each.0.held) (told fs held turns.0 q ts bs (omega (arith, long)) turns.2 each.1)
    where
      by : (u : Bool) → u ≡ some_wait held b → items_where_true ts bs ≡ filter (some_wait held) bs → items_where_true (u ∷ ts) (b ∷ bs) ≡ cond (some_wait held b) (b ∷ filter (some_wait held) bs) (filter (some_wait held) bs)
      by true e rest = ap (λ (cs : List KeyBuffer). b ∷ cs) rest ∙ ap (λ (c : Bool). cond c (b ∷ filter (some_wait held) bs) (filter (some_wait held) bs)) e
      by false e rest = rest ∙ ap (λ (c : Bool). cond c (b ∷ filter (some_wait held) bs) (filter (some_wait held) bs)) e

  pub rows_left : (fs : Fields) (held : Held) (p : P) (bs cs : List KeyBuffer) → HoldEach fs held bs → IsFiltered R p bs cs → cs ≡ filter (some_wait held) bs
  rows_left fs held p bs cs each is = is.4 ∙ told fs held p is.1 is.0 bs is.2 is.3 each

keys_kept : (Q : Key → Type 0) (test : KeyBuffer → Bool) (bs : List KeyBuffer) → AllByRecursion Q (keys_of bs) → AllByRecursion Q (keys_of (filter test bs))
keys_kept Q test [] h = tt
keys_kept Q test (b ∷ bs) h = by (test b) (keys_kept Q test bs h.1)
  where
    by : (t : Bool) → AllByRecursion Q (keys_of (filter test bs)) → AllByRecursion Q (keys_of (cond t (b ∷ filter test bs) (filter test bs)))
    by true more = (h.0, more)
    by false more = more

different_kept : (test : KeyBuffer → Bool) (bs : List KeyBuffer) → AreDifferent (keys_of bs) → AreDifferent (keys_of (filter test bs))
different_kept test [] d = tt
different_kept test (b ∷ bs) d = by (test b) (different_kept test bs d.1)
  where
    by : (t : Bool) → AreDifferent (keys_of (filter test bs)) → AreDifferent (keys_of (cond t (b ∷ filter test bs) (filter test bs)))
    by true more = (keys_kept (λ l. is_same_key (key_view b.key) l ≡ false) test bs d.0, more)
    by false more = more

-- the buffer holds its rows, and there are some
abbrev HoldsSome : Fields → Held → KeyBuffer → Type 0
HoldsSome fs held b = HoldsRows fs (held (key_view b.key)) b × (some_wait held b ≡ true)

each_kept : (fs : Fields) (held : Held) (bs : List KeyBuffer) → HoldEach fs held bs → AllByRecursion (HoldsSome fs held) (filter (some_wait held) bs)
each_kept fs held [] h = tt
each_kept fs held (b ∷ bs) h = by (some_wait held b) refl (each_kept fs held bs h.1)
  where
    by : (t : Bool) → some_wait held b ≡ t → AllByRecursion (HoldsSome fs held) (filter (some_wait held) bs) → AllByRecursion (HoldsSome fs held) (cond t (b ∷ filter (some_wait held) bs) (filter (some_wait held) bs))
    by true e more = ((h.0, e), more)
    by false e more = more

no_rows : (rows : List ValueTrees) → nat_lt 0 (length rows) ≡ false → rows ≡ []
no_rows [] h = refl
no_rows (r ∷ rows) h = absurd (false≢true (sym h ∙ lt-ltb 0 (length (r ∷ rows)) (omega arith)))

-- a key that had a buffer has one still, or no rows wait under it
kept_or_none : (held : Held) (k : Key) (bs : List KeyBuffer) (n : ℕ) → n < length (keys_of bs) → get_or (keys_of bs) n k ≡ k → (held k ≡ []) ⊎ Contains (keys_of (filter (some_wait held) bs)) k
kept_or_none held k [] n h e = absurd (omega (arith, h))
kept_or_none held k (b ∷ bs) zero h e = by (some_wait held b) refl
  where
    by : (t : Bool) → some_wait held b ≡ t → (held k ≡ []) ⊎ Contains (keys_of (cond t (b ∷ filter (some_wait held) bs) (filter (some_wait held) bs))) k
    by true is = inr (0, omega arith, e)
    by false is = inl (ap held (sym e) ∙ no_rows (held (key_view b.key)) is)
kept_or_none held k (b ∷ bs) (suc n) h e = by (some_wait held b) (kept_or_none held k bs n (omega (arith, h)) e)
  where
    by : (t : Bool) → (held k ≡ []) ⊎ Contains (keys_of (filter (some_wait held) bs)) k → (held k ≡ []) ⊎ Contains (keys_of (cond t (b ∷ filter (some_wait held) bs) (filter (some_wait held) bs))) k
    by true (inl none) = inl none
    by true (inr at) = inr (suc at.0, omega (arith, at.1), at.2)
    by false rest = rest

-- ---- keys ascending

to_distinct : (ks : List Key) → AreDifferent ks → IsDistinct is_same_key ks
unfolding IsDistinct
to_distinct [] h = tt
to_distinct (k ∷ ks) h = (h.0, to_distinct ks h.1)

from_distinct : (ks : List Key) → IsDistinct is_same_key ks → AreDifferent ks
unfolding IsDistinct
from_distinct [] h = tt
from_distinct (k ∷ ks) h = (h.0, from_distinct ks h.1)

abbrev pub before : KeyBuffer → KeyBuffer → Bool
before x y = is_lt (key_cmp (key_view x.key) (key_view y.key))

ascending : (columns : List KeyColumn) (bs : List KeyBuffer) → ((n : ℕ) (d : KeyBuffer) → suc n < length bs → before (get_or bs (suc n) d) (get_or bs n d) ≡ false)
    → AllByRecursion (λ k. CanPartition columns k) (keys_of bs) → AreDifferent (keys_of bs) → AreAscending (keys_of bs)
ascending columns [] up all d = tt
ascending columns (x ∷ []) up all d = tt
ascending columns (x ∷ y ∷ bs) up all d =
    (key_below columns (key_view x.key) (key_view y.key) all.0.values all.1.0.values d.0.0 (up 0 x (omega arith)), ascending columns (y ∷ bs) (λ n e h. up (suc n) e (omega (arith, h))) all.1 d.1)

-- ---- groups

abbrev group_with : Held → KeyBuffer → KeyRows
group_with held b = record { key = key_view b.key; rows = held (key_view b.key) }

abbrev groups_with : Held → List KeyBuffer → List KeyRows
groups_with held bs = map (group_with held) bs

keys_with : (held : Held) (bs : List KeyBuffer) → keys_of bs ≡ map (λ (p : KeyRows). p.key) (groups_with held bs)
keys_with held [] = refl
keys_with held (b ∷ bs) = ap (λ (ks : List Key). key_view b.key ∷ ks) (keys_with held bs)

hold_with : (fs : Fields) (held : Held) (bs : List KeyBuffer) → AllByRecursion (HoldsSome fs held) bs → Hold fs bs (groups_with held bs)
hold_with fs held [] h = tt
hold_with fs held (b ∷ bs) h = (record { key = refl; rows = h.0.0 }, hold_with fs held bs h.1)

hold_both : (fs : Fields) (bs cs : List KeyBuffer) (gs hs : List KeyRows) → Hold fs bs gs → Hold fs cs hs → Hold fs (bs ++ cs) (gs ++ hs)
hold_both fs [] cs [] hs h more = more
hold_both fs [] cs (g ∷ gs) hs h more = absurd h
hold_both fs (b ∷ bs) cs [] hs h more = absurd h
hold_both fs (b ∷ bs) cs (g ∷ gs) hs h more = (h.0, hold_both fs bs cs gs hs h.1 more)

some_rows : (rows : List ValueTrees) → nat_lt 0 (length rows) ≡ true → rows ≢ []
some_rows [] h = λ e. false≢true h
some_rows (r ∷ rows) h = λ e. cc

each_rest : (columns : List KeyColumn) (fs : Fields) (held : Held) (bs : List KeyBuffer) → AllByRecursion (λ k. CanPartition columns k) (keys_of bs) → AllByRecursion (HoldsSome fs held) bs
    → AllByRecursion (λ (p : KeyRows). CanPartition columns p.key × (p.rows ≡ held p.key) × (p.rows ≢ [])) (groups_with held bs)
each_rest columns fs held [] can h = tt
each_rest columns fs held (b ∷ bs) can h = ((can.0, refl, some_rows (held (key_view b.key)) h.0.1), each_rest columns fs held bs can.1 h.1)

pub groups_are : (columns : List KeyColumn) (size : ℕ) (fs : Fields) (rows : List ValueTrees) (full waiting kept sorted : List KeyBuffer)
    → Hold fs full (full_groups columns size rows) → AreWaiting columns size fs rows waiting → kept ≡ filter (some_wait (λ k. waiting_rows columns size k rows)) waiting
    → IsPermutation kept sorted → IsSortedBy before sorted → HoldGroups columns size fs rows (full ++ sorted)
groups_are columns size fs rows full waiting kept sorted held waits is moves sorts =
    let each_of : Held = λ k. waiting_rows columns size k rows in
    let test = some_wait each_of in
    let names : IsPermutation (keys_of kept) (keys_of sorted) = IsPermutation-map (λ (b : KeyBuffer). key_view b.key) kept sorted moves in
    let some : AllByRecursion (HoldsSome fs each_of) sorted = moved (HoldsSome fs each_of) kept sorted moves (subst (AllByRecursion (HoldsSome fs each_of)) (sym is) (each_kept fs each_of waiting waits.each)) in
    let can : AllByRecursion (λ k. CanPartition columns k) (keys_of sorted) =
    moved (λ k. CanPartition columns k) (keys_of kept) (keys_of sorted) names (subst (λ (bs : List KeyBuffer). AllByRecursion (λ k. CanPartition columns k) (keys_of bs)) (sym is) (keys_kept (λ k. CanPartition columns k) test waiting waits.can)) in
    let apart : AreDifferent (keys_of kept) = subst (λ (bs : List KeyBuffer). AreDifferent (keys_of bs)) (sym is) (different_kept test waiting waits.different) in
    let different : AreDifferent (keys_of sorted) = from_distinct (keys_of sorted) (IsDistinct-IsPermutation is_same_key key_flips (keys_of kept) (keys_of sorted) names (to_distinct (keys_of kept) apart)) in
    let rests = groups_with each_of sorted in
    let up = ascending columns sorted (λ n d less. subst (λ m. before (get_or sorted m d) (get_or sorted n d) ≡ false) (add-one n) (sorts n d (omega arith) (omega (arith, less)))) can different in
    record {
      groups = full_groups columns size rows ++ rests;
      are = record {
        rests = rests;
        parts = refl;
        are = record {
          ascending = subst AreAscending (keys_with each_of sorted) up;
          each = each_rest columns fs each_of sorted can some;
          every = all_map (λ r. Contains (keys_of waiting) (key_of_row columns r)) (λ r. (each_of (key_of_row columns r) ≡ []) ⊎ Contains (map (λ (p : KeyRows). p.key) rests) (key_of_row columns r)) rows
              (λ r at. there (key_of_row columns r) (kept_or_none each_of (key_of_row columns r) waiting at.0 at.1 at.2)) waits.every;
        };
      };
      held = hold_both fs full sorted (full_groups columns size rows) rests held (hold_with fs each_of sorted some);
    }
  where
    there : (k : Key) → (waiting_rows columns size k rows ≡ []) ⊎ Contains (keys_of (filter (some_wait (λ l. waiting_rows columns size l rows)) waiting)) k
        → (waiting_rows columns size k rows ≡ []) ⊎ Contains (map (λ (p : KeyRows). p.key) (groups_with (λ l. waiting_rows columns size l rows) sorted)) k
    there k (inl none) = inl none
    there k (inr at) = inr (subst (λ (ks : List Key). Contains ks k) (keys_with (λ l. waiting_rows columns size l rows) sorted)
        (Contains-permutation (keys_of kept) (keys_of sorted) k (IsPermutation-map (λ (b : KeyBuffer). key_view b.key) kept sorted moves) (subst (λ (bs : List KeyBuffer). Contains (keys_of bs) k) (sym is) at)))
