-- What one more row changes of the groups that rows fill.
use Rattle.std.proofs.Common.{◌≡◌, ℕ, true, false, List, [], ◌∷◌, ◌++◌, refl, ap, sym, ◌∙◌}
use Rattle.std.specs.Prelude.{Bool, if◌then◌else◌}
use Rattle.std.proofs.lemmas.List.{append-nil, append_assoc}
use Rattle.schema.specs.Values.{ValueTree, ValueTrees}
use Rattle.schema.specs.Keys.{KeyColumn, row_without_keys}
use Rattle.partition.specs.Splitting.{KeyRows, has_key, rows_with}
use Rattle.partition.proofs.WithKeys.{rows_more}
use Rattle.gather.specs.Groups.{waiting_after, left_after, waiting_rows, filled_by, filled_after, full_groups}

left_more : (size : ℕ) (held rows : List ValueTrees) (row : ValueTrees) → left_after size held (rows ++ row ∷ []) ≡ waiting_after size (left_after size held rows) row
left_more size held [] row = refl
left_more size held (r ∷ rows) row = left_more size (waiting_after size held r) rows row

-- a row of another key
pub waits_other : (columns : List KeyColumn) (size : ℕ) (k : List ValueTree) (done : List ValueTrees) (row : ValueTrees) → has_key columns k row ≡ false
    → waiting_rows columns size k (done ++ row ∷ []) ≡ waiting_rows columns size k done
waits_other columns size k done row other =
    ap (left_after size []) (rows_more columns k done row
    ∙ ap (λ (b : Bool). rows_with columns k done ++ (if b then row_without_keys columns row ∷ [] else [])) other
    ∙ append-nil (rows_with columns k done))

-- a row of this key
pub waits_one : (columns : List KeyColumn) (size : ℕ) (k : List ValueTree) (done : List ValueTrees) (row : ValueTrees) → has_key columns k row ≡ true
    → waiting_rows columns size k (done ++ row ∷ []) ≡ waiting_after size (waiting_rows columns size k done) (row_without_keys columns row)
waits_one columns size k done row same =
    ap (left_after size []) (rows_more columns k done row ∙ ap (λ (b : Bool). rows_with columns k done ++ (if b then row_without_keys columns row ∷ [] else [])) same)
    ∙ left_more size [] (rows_with columns k done) (row_without_keys columns row)

filled_more : (columns : List KeyColumn) (size : ℕ) (before rows : List ValueTrees) (row : ValueTrees)
    → filled_after columns size before (rows ++ row ∷ []) ≡ filled_after columns size before rows ++ filled_by columns size (before ++ rows) row
filled_more columns size before [] row =
    append-nil (filled_by columns size before row) ∙ ap (λ (b : List ValueTrees). filled_by columns size b row) (sym (append-nil before))
filled_more columns size before (r ∷ rows) row =
    let first = filled_by columns size before r in
    let next = before ++ r ∷ [] in
    ap (λ (gs : List KeyRows). first ++ gs) (filled_more columns size next rows row)
    ∙ ap (λ (b : List ValueTrees). first ++ (filled_after columns size next rows ++ filled_by columns size b row)) (append_assoc before (r ∷ []) rows)
    ∙ sym (append_assoc first (filled_after columns size next rows) (filled_by columns size (before ++ r ∷ rows) row))

-- the full groups after one more row
pub full_more : (columns : List KeyColumn) (size : ℕ) (done : List ValueTrees) (row : ValueTrees)
    → full_groups columns size (done ++ row ∷ []) ≡ full_groups columns size done ++ filled_by columns size done row
full_more columns size done row = filled_more columns size [] done row
