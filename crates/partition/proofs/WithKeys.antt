-- One more row goes to its key.
use Rattle.std.proofs.Common.{◌≡◌, ℕ, zero, suc, ◌<◌, Bool, true, false, List, [], ◌∷◌, ◌++◌, inl, inr, length, get_or, set, map, refl, ap, sym, subst, ◌∙◌, arith, lit<}
use Rattle.std.specs.Prelude.{cond, filter, Contains, if◌then◌else◌}
use Rattle.std.specs.List.{AllByRecursion}
use Rattle.std.proofs.lemmas.List.{append-nil, map_push}
use Rattle.std.proofs.lemmas.List.Elements.{Contains-push, Contains-append_left}
use Rattle.lists.proofs.Lists.{all_weaker_on as all_map}
use Rattle.schema.specs.Values.{ValueTree, ValueTrees}
use Rattle.schema.specs.declared.row.Row.{Row}
use Rattle.schema.specs.Views.{key_view, row_view, rows_view}
use Rattle.partition.specs.declared.splitting.KeyRows.{KeyRows as CodeKeyRows}
use Rattle.schema.specs.Keys.{KeyColumn, key_of_row, row_without_keys}
use Rattle.partition.specs.Folders.{CanPartition}
use Rattle.partition.specs.Order.{is_same_key}
use Rattle.partition.specs.Splitting.{KeyRows, key_rows_view, has_key, rows_with}
use Rattle.partition.specs.inner.Parts.{AreDifferent, AreWithKeys, IsPlaced, with_row}
use Rattle.partition.proofs.SameKeys.{key_same, other_way}

-- ---- lists

pub all_push : {X : Type 0} (P : X → Type 0) (xs : List X) (y : X) → AllByRecursion P xs → P y → AllByRecursion P (xs ++ y ∷ [])
all_push P [] y h k = (k, tt)
all_push P (x ∷ xs) y h k = (h.0, all_push P xs y h.1 k)

contained : {X : Type 0} (P : X → Type 0) (xs : List X) (x : X) (i : ℕ) → i < length xs → get_or xs i x ≡ x → AllByRecursion P xs → P x
contained P [] x i h e a = absurd (omega (arith, h))
contained P (y ∷ xs) x zero h e a = subst P e a.0
contained P (y ∷ xs) x (suc i) h e a = contained P xs x i (omega (arith, h)) e a.1

pub among : {X : Type 0} (P : X → Type 0) (xs : List X) (x : X) → Contains xs x → AllByRecursion P xs → P x
among P xs x at all = contained P xs x at.0 at.1 at.2 all

-- ---- the rows of a key

more_of : (columns : List KeyColumn) (k : List ValueTree) (b : Bool) (row : ValueTrees) → map (row_without_keys columns) (cond b (row ∷ []) []) ≡ cond b (row_without_keys columns row ∷ []) []
more_of columns k true row = refl
more_of columns k false row = refl

pub rows_more : (columns : List KeyColumn) (k : List ValueTree) (done : List ValueTrees) (row : ValueTrees)
    → rows_with columns k (done ++ row ∷ []) ≡ rows_with columns k done ++ (if has_key columns k row then row_without_keys columns row ∷ [] else [])
rows_more columns k [] row = more_of columns k (has_key columns k row) row
rows_more columns k (x ∷ done) row = by (has_key columns k x) (rows_more columns k done row)
  where
    by : (b : Bool) → rows_with columns k (done ++ row ∷ []) ≡ rows_with columns k done ++ (if has_key columns k row then row_without_keys columns row ∷ [] else [])
        → map (row_without_keys columns) (cond b (x ∷ filter (has_key columns k) (done ++ row ∷ [])) (filter (has_key columns k) (done ++ row ∷ [])))
        ≡ map (row_without_keys columns) (cond b (x ∷ filter (has_key columns k) done) (filter (has_key columns k) done)) ++ (if has_key columns k row then row_without_keys columns row ∷ [] else [])
    by true h = ap (λ l. row_without_keys columns x ∷ l) h
    by false h = h

none_with : (columns : List KeyColumn) (k : List ValueTree) (keys : List (List ValueTree)) (done : List ValueTrees) → AllByRecursion (λ l. is_same_key k l ≡ false) keys
    → AllByRecursion (λ row. Contains keys (key_of_row columns row)) done → rows_with columns k done ≡ []
none_with columns k keys [] other every = refl
none_with columns k keys (row ∷ done) other every =
    let differs : is_same_key (key_of_row columns row) k ≡ false = other_way k (key_of_row columns row) (among (λ l. is_same_key k l ≡ false) keys (key_of_row columns row) every.0 other) in
    rw differs (none_with columns k keys done other every.1)

-- ---- a row is put at its key

abbrev pushed : List ValueTree → ValueTrees → KeyRows → KeyRows
pushed k r p = record { key = p.key; rows = p.rows ++ (if is_same_key k p.key then r ∷ [] else []) }

keys_pushed : (k : List ValueTree) (r : ValueTrees) (parts : List KeyRows) → map (λ (p : KeyRows). p.key) (map (pushed k r) parts) ≡ map (λ (p : KeyRows). p.key) parts
keys_pushed k r [] = refl
keys_pushed k r (p ∷ parts) = ap (λ l. p.key ∷ l) (keys_pushed k r parts)

each_more : (columns : List KeyColumn) (done : List ValueTrees) (row : ValueTrees) (parts : List KeyRows)
    → AllByRecursion (λ (p : KeyRows). CanPartition columns p.key × (p.rows ≡ rows_with columns p.key done)) parts
    → AllByRecursion (λ (p : KeyRows). CanPartition columns p.key × (p.rows ≡ rows_with columns p.key (done ++ row ∷ []))) (map (pushed (key_of_row columns row) (row_without_keys columns row)) parts)
each_more columns done row [] h = tt
each_more columns done row (p ∷ parts) h =
    ((h.0.0, ap (λ l. l ++ (if has_key columns p.key row then row_without_keys columns row ∷ [] else [])) h.0.1 ∙ sym (rows_more columns p.key done row)), each_more columns done row parts h.1)

unpushed : (k : List ValueTree) (r : ValueTrees) (p : KeyRows) → is_same_key k p.key ≡ false → p ≡ pushed k r p
unpushed k r p e = rw (e, append-nil p.rows) refl

none_pushed : (k : List ValueTree) (r : ValueTrees) (parts : List KeyRows) → AllByRecursion (λ l. is_same_key k l ≡ false) (map (λ (p : KeyRows). p.key) parts) → parts ≡ map (pushed k r) parts
none_pushed k r [] h = refl
none_pushed k r (p ∷ parts) h = λ i. unpushed k r p h.0 i ∷ none_pushed k r parts h.1 i

pushed_here : (k : List ValueTree) (r : ValueTrees) (p : KeyRows) → is_same_key k p.key ≡ true → record { key = p.key; rows = p.rows ++ r ∷ [] } ≡ pushed k r p
pushed_here k r p e = rw e refl

pushed_at : (k : List ValueTree) (r : ValueTrees) (parts : List KeyRows) (at : ℕ) → AreDifferent (map (λ (p : KeyRows). p.key) parts) → is_same_key k k ≡ true
    → at < length (map (λ (p : KeyRows). p.key) parts) → get_or (map (λ (p : KeyRows). p.key) parts) at k ≡ k → with_row at r parts ≡ map (pushed k r) parts
pushed_at k r [] at d same h e = absurd (omega (arith, h))
pushed_at k r (p ∷ parts) zero d same h e =
    let here : is_same_key k p.key ≡ true = subst (λ l. is_same_key k l ≡ true) (sym e) same in
    let others : AllByRecursion (λ l. is_same_key k l ≡ false) (map (λ (q : KeyRows). q.key) parts) = subst (λ m. AllByRecursion (λ l. is_same_key m l ≡ false) (map (λ (q : KeyRows). q.key) parts)) e d.0 in
    λ i. pushed_here k r p here i ∷ none_pushed k r parts others i
pushed_at k r (p ∷ parts) (suc at) d same h e =
    let differs : is_same_key p.key k ≡ false = contained (λ l. is_same_key p.key l ≡ false) (map (λ (q : KeyRows). q.key) parts) k at (omega (arith, h)) e d.0 in
    λ i. unpushed k r p (other_way p.key k differs) i ∷ pushed_at k r parts at d.1 same (omega (arith, h)) e i

-- ---- one more row

core : (columns : List KeyColumn) (done : List ValueTrees) (row : ValueTrees) (parts : List KeyRows) (at : ℕ)
    → AreDifferent (map (λ (p : KeyRows). p.key) parts)
    → AllByRecursion (λ (p : KeyRows). CanPartition columns p.key × (p.rows ≡ rows_with columns p.key done)) parts
    → AllByRecursion (λ k. Contains (map (key_of_row columns) (done ++ row ∷ [])) k) (map (λ (p : KeyRows). p.key) parts)
    → AllByRecursion (λ r. Contains (map (λ (p : KeyRows). p.key) parts) (key_of_row columns r)) done
    → is_same_key (key_of_row columns row) (key_of_row columns row) ≡ true
    → at < length (map (λ (p : KeyRows). p.key) parts) → get_or (map (λ (p : KeyRows). p.key) parts) at (key_of_row columns row) ≡ key_of_row columns row
    → AreWithKeys columns (done ++ row ∷ []) (with_row at (row_without_keys columns row) parts)
core columns done row parts at different each used every same within is =
    let k = key_of_row columns row in
    let r = row_without_keys columns row in
    let keys = sym (keys_pushed k r parts) in
    let all = all_push (λ x. Contains (map (λ (p : KeyRows). p.key) parts) (key_of_row columns x)) done row every (at, within, is) in
    subst (AreWithKeys columns (done ++ row ∷ [])) (sym (pushed_at k r parts at different same within is))
    (record {
      different = subst AreDifferent keys different;
      each = each_more columns done row parts each;
      used = subst (AllByRecursion (λ l. Contains (map (key_of_row columns) (done ++ row ∷ [])) l)) keys used;
      every = subst (λ ks. AllByRecursion (λ x. Contains ks (key_of_row columns x)) (done ++ row ∷ [])) keys all;
    })

different_push : (keys : List (List ValueTree)) (k : List ValueTree) → AreDifferent keys → AllByRecursion (λ l. is_same_key k l ≡ false) keys → AreDifferent (keys ++ k ∷ [])
different_push [] k d other = (tt, tt)
different_push (l ∷ keys) k d other = (all_push (λ m. is_same_key l m ≡ false) keys k d.0 (other_way k l other.0), different_push keys k d.1 other.1)

same_length : (keys : List (List ValueTree)) (k : List ValueTree) → (length keys < length (keys ++ k ∷ [])) × (get_or (keys ++ k ∷ []) (length keys) k ≡ k)
same_length [] k = (lit< tt, refl)
same_length (l ∷ keys) k = let more = same_length keys k in (omega (arith, more.0), more.1)

used_more : (columns : List KeyColumn) (done : List ValueTrees) (row : ValueTrees) (keys : List (List ValueTree)) → AllByRecursion (λ l. Contains (map (key_of_row columns) done) l) keys
    → AllByRecursion (λ l. Contains (map (key_of_row columns) (done ++ row ∷ [])) l) keys
used_more columns done row keys h =
    all_map (λ l. Contains (map (key_of_row columns) done) l) (λ l. Contains (map (key_of_row columns) (done ++ row ∷ [])) l) keys
    (λ l c. subst (λ ks. Contains ks l) (sym (map_push (key_of_row columns) done row)) (Contains-append_left (map (key_of_row columns) done) (key_of_row columns row ∷ []) l c)) h

all_same : (columns : List KeyColumn) (done : List ValueTrees) (parts : List KeyRows) → AllByRecursion (λ (p : KeyRows). CanPartition columns p.key × (p.rows ≡ rows_with columns p.key done)) parts
    → AllByRecursion (λ l. is_same_key l l ≡ true) (map (λ (p : KeyRows). p.key) parts)
all_same columns done [] h = tt
all_same columns done (p ∷ parts) h = (key_same columns p.key h.0.0.values, all_same columns done parts h.1)

long : (parts : List KeyRows) → length (map (λ (p : KeyRows). p.key) parts) ≡ length parts
long [] = refl
long (p ∷ parts) = ap suc (long parts)

pub one_more : (columns : List KeyColumn) (done : List ValueTrees) (row : ValueTrees) (parts new : List KeyRows) (at : ℕ) → AreWithKeys columns done parts → IsPlaced columns parts (key_of_row columns row) at new
    → AreWithKeys columns (done ++ row ∷ []) (with_row at (row_without_keys columns row) new)
one_more columns done row parts new at h (inl there) =
    let P : List KeyRows → Type 0 = λ ps. AreWithKeys columns (done ++ row ∷ []) (with_row at (row_without_keys columns row) ps) in
    let k = key_of_row columns row in
    let can = among (λ l. is_same_key l l ≡ true) (map (λ (p : KeyRows). p.key) parts) k (at, there.within, there.key_is) (all_same columns done parts h.each) in
    subst P (sym there.same) (core columns done row parts at h.different h.each (used_more columns done row _ h.used) h.every can there.within there.key_is)
one_more columns done row parts new at h (inr added) =
    let P : List KeyRows → Type 0 = λ ps. AreWithKeys columns (done ++ row ∷ []) (with_row at (row_without_keys columns row) ps) in
    let k = key_of_row columns row in
    let keys = map (λ (p : KeyRows). p.key) parts in
    let empty : KeyRows = record { key = k; rows = [] } in
    let both : map (λ (p : KeyRows). p.key) (parts ++ empty ∷ []) ≡ keys ++ k ∷ [] = map_push (λ (p : KeyRows). p.key) parts empty in
    let last = same_length keys k in
    let here : at ≡ length keys = added.place ∙ sym (long parts) in
    let used = all_push (λ l. Contains (map (key_of_row columns) (done ++ row ∷ [])) l) keys k (used_more columns done row keys h.used)
    (subst (λ ks. Contains ks k) (sym (map_push (key_of_row columns) done row)) (Contains-push (map (key_of_row columns) done) k)) in
    let every = all_map (λ x. Contains keys (key_of_row columns x)) (λ x. Contains (keys ++ k ∷ []) (key_of_row columns x)) done (λ x c. Contains-append_left keys (k ∷ []) (key_of_row columns x) c) h.every in
    subst P (sym added.added)
    (core columns done row (parts ++ empty ∷ []) at
    (subst AreDifferent (sym both) (different_push keys k h.different added.other))
    (all_push (λ (p : KeyRows). CanPartition columns p.key × (p.rows ≡ rows_with columns p.key done)) parts empty h.each (added.can, sym (none_with columns k keys done added.other h.every)))
    (subst (AllByRecursion (λ l. Contains (map (key_of_row columns) (done ++ row ∷ [])) l)) (sym both) used)
    (subst (λ ks. AllByRecursion (λ x. Contains ks (key_of_row columns x)) done) (sym both) every)
    (key_same columns k added.can.values)
    (subst (λ ks. at < length ks) (sym both) (omega (arith, last.0, here)))
    (subst (λ ks. get_or ks at k ≡ k) (sym both) (subst (λ n. get_or (keys ++ k ∷ []) n k ≡ k) (sym here) last.1)))

-- ---- the same in the program's lists

pub with_row_is : (parts : List CodeKeyRows) (at : ℕ) (old new : CodeKeyRows) (row : Row) → at < length parts → old ≡ get_or parts at old → new.key ≡ old.key → new.rows.items ≡ old.rows.items ++ row ∷ []
    → map key_rows_view (set parts at new) ≡ with_row at (row_view row) (map key_rows_view parts)
with_row_is [] at old new row h is k r = absurd (omega (arith, h))
with_row_is (p ∷ parts) zero old new row h is k r =
    let keys : key_view new.key ≡ key_view p.key = ap key_view k ∙ ap (λ (x : CodeKeyRows). key_view x.key) is in
    let rows : rows_view new.rows.items ≡ rows_view p.rows.items ++ row_view row ∷ []
    = ap rows_view r ∙ map_push row_view old.rows.items row ∙ ap (λ (x : CodeKeyRows). rows_view x.rows.items ++ row_view row ∷ []) is in
    λ i. record { key = keys i; rows = rows i } ∷ map key_rows_view parts
with_row_is (p ∷ parts) (suc at) old new row h is k r = ap (λ (l : List KeyRows). key_rows_view p ∷ l) (with_row_is parts at old new row (omega (arith, h)) is k r)

pub row_of_all : (P : ValueTrees → Type 0) (rows : List Row) (i : ℕ) (row : Row) → i < length rows → row ≡ get_or rows i row → AllByRecursion P (rows_view rows) → P (row_view row)
row_of_all P [] i row h is all = absurd (omega (arith, h))
row_of_all P (r ∷ rows) zero row h is all = subst (λ (x : Row). P (row_view x)) (sym is) all.0
row_of_all P (r ∷ rows) (suc i) row h is all = row_of_all P rows i row (omega (arith, h)) is all.1

pub long_views : (parts : List CodeKeyRows) → length (map key_rows_view parts) ≡ length parts
long_views [] = refl
long_views (p ∷ parts) = ap suc (long_views parts)

pub keys_with_row : (at : ℕ) (r : ValueTrees) (parts : List KeyRows) → map (λ (p : KeyRows). p.key) (with_row at r parts) ≡ map (λ (p : KeyRows). p.key) parts
keys_with_row at r [] = refl
keys_with_row zero r (p ∷ parts) = refl
keys_with_row (suc at) r (p ∷ parts) = ap (λ l. p.key ∷ l) (keys_with_row at r parts)

pub map_same : {X : Type 0} (xs : List X) → map (λ (x : X). x) xs ≡ xs
map_same [] = refl
map_same (x ∷ xs) = ap (λ l. x ∷ l) (map_same xs)
