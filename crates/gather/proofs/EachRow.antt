-- The rows of a key are those of its groups.
use Rattle.std.proofs.Common.{◌≡◌, ℕ, suc, Bool, true, false, List, [], ◌∷◌, ◌++◌, length, refl, ap, sym, subst, ◌∙◌}
use Rattle.std.specs.Prelude.{nat_lt, if◌then◌else◌}
use Rattle.std.proofs.lemmas.List.{append-nil, append_assoc}
use Rattle.schema.specs.Values.{ValueTree, ValueTrees}
use Rattle.schema.specs.Keys.{KeyColumn, key_of_row, row_without_keys}
use Rattle.partition.specs.Order.{is_same_key}
use Rattle.partition.specs.Splitting.{KeyRows, has_key, rows_with}
use Rattle.partition.proofs.SameKeys.{same_key}
use Rattle.partition.proofs.WithKeys.{rows_more}
use Rattle.gather.specs.Groups.{waiting_after, waiting_rows, filled, filled_by, full_groups}
use Rattle.gather.specs.Laws.{rows_under, GroupsHaveRows}
use Rattle.gather.proofs.WaitingRows.{waits_other, waits_one, full_more}

abbrev Key : Type 0
Key = List ValueTree

under_append : (k : Key) (gs hs : List KeyRows) → rows_under k (gs ++ hs) ≡ rows_under k gs ++ rows_under k hs
under_append k [] hs = refl
under_append k (g ∷ gs) hs =
    let here = if is_same_key g.key k then g.rows else [] in
    ap (λ (rs : List ValueTrees). here ++ rs) (under_append k gs hs) ∙ sym (append_assoc here (rows_under k gs) (rows_under k hs))

-- a group that is filled under another key
none_filled : (size : ℕ) (l k : Key) (held : List ValueTrees) (row : ValueTrees) → is_same_key l k ≡ false → rows_under k (filled size l held row) ≡ []
none_filled size l k held row other = by (nat_lt (suc (length held)) size)
  where
    by : (b : Bool) → rows_under k (if b then [] else record { key = l; rows = held ++ row ∷ [] } ∷ []) ≡ []
    by true = refl
    by false = ap (λ (s : Bool). (if s then held ++ row ∷ [] else []) ++ []) other

-- what is filled under the key, and what waits then, are what waited and the row
some_filled : (size : ℕ) (l k : Key) (held : List ValueTrees) (row : ValueTrees) → is_same_key l k ≡ true → rows_under k (filled size l held row) ++ waiting_after size held row ≡ held ++ row ∷ []
some_filled size l k held row same = by (nat_lt (suc (length held)) size)
  where
    by : (b : Bool) → rows_under k (if b then [] else record { key = l; rows = held ++ row ∷ [] } ∷ []) ++ (if b then held ++ row ∷ [] else []) ≡ held ++ row ∷ []
    by true = refl
    by false = append-nil (rows_under k (record { key = l; rows = held ++ row ∷ [] } ∷ [])) ∙ ap (λ (s : Bool). (if s then held ++ row ∷ [] else []) ++ []) same ∙ append-nil (held ++ row ∷ [])

-- the law, of some rows
abbrev Has : List KeyColumn → ℕ → Key → List ValueTrees → Type 0
Has columns size k rows = rows_under k (full_groups columns size rows) ++ waiting_rows columns size k rows ≡ rows_with columns k rows

one_more : (columns : List KeyColumn) (size : ℕ) (k : Key) (done : List ValueTrees) (row : ValueTrees) → Has columns size k done → Has columns size k (done ++ row ∷ [])
one_more columns size k done row has = by (has_key columns k row) refl
  where
    full : List KeyRows
    full = full_groups columns size done

    mine : Key
    mine = key_of_row columns row

    rest : ValueTrees
    rest = row_without_keys columns row

    by : (b : Bool) → has_key columns k row ≡ b → Has columns size k (done ++ row ∷ [])
    by true same =
        let is : mine ≡ k = same_key mine k same in
        let held = waiting_rows columns size k done in
        let grown : rows_under k (full_groups columns size (done ++ row ∷ [])) ≡ rows_under k full ++ rows_under k (filled size mine held rest) =
        ap (rows_under k) (full_more columns size done row) ∙ under_append k full (filled_by columns size done row)
        ∙ ap (λ (l : Key). rows_under k full ++ rows_under k (filled size mine (waiting_rows columns size l done) rest)) is in
        ap (λ (rs : List ValueTrees). rs ++ waiting_rows columns size k (done ++ row ∷ [])) grown
        ∙ ap (λ (rs : List ValueTrees). (rows_under k full ++ rows_under k (filled size mine held rest)) ++ rs) (waits_one columns size k done row same)
        ∙ append_assoc (rows_under k full) (rows_under k (filled size mine held rest)) (waiting_after size held rest)
        ∙ ap (λ (rs : List ValueTrees). rows_under k full ++ rs) (some_filled size mine k held rest same)
        ∙ sym (append_assoc (rows_under k full) held (rest ∷ []))
        ∙ ap (λ (rs : List ValueTrees). rs ++ rest ∷ []) has
        ∙ sym (rows_more columns k done row ∙ ap (λ (s : Bool). rows_with columns k done ++ (if s then rest ∷ [] else [])) same)
    by false other =
        let held = waiting_rows columns size mine done in
        let grown : rows_under k (full_groups columns size (done ++ row ∷ [])) ≡ rows_under k full =
        ap (rows_under k) (full_more columns size done row) ∙ under_append k full (filled_by columns size done row)
        ∙ ap (λ (rs : List ValueTrees). rows_under k full ++ rs) (none_filled size mine k held rest other) ∙ append-nil (rows_under k full) in
        ap (λ (rs : List ValueTrees). rs ++ waiting_rows columns size k (done ++ row ∷ [])) grown
        ∙ ap (λ (rs : List ValueTrees). rows_under k full ++ rs) (waits_other columns size k done row other)
        ∙ has
        ∙ sym (rows_more columns k done row ∙ ap (λ (s : Bool). rows_with columns k done ++ (if s then rest ∷ [] else [])) other ∙ append-nil (rows_with columns k done))

all_have : (columns : List KeyColumn) (size : ℕ) (k : Key) (done rows : List ValueTrees) → Has columns size k done → Has columns size k (done ++ rows)
all_have columns size k done [] has = subst (Has columns size k) (sym (append-nil done)) has
all_have columns size k done (row ∷ rows) has =
    subst (Has columns size k) (append_assoc done (row ∷ []) rows) (all_have columns size k (done ++ row ∷ []) rows (one_more columns size k done row has))

pub groups_have_rows : GroupsHaveRows
groups_have_rows columns size rows k = all_have columns size k [] rows refl
