-- Rows with Null at the end.
use Rattle.std.proofs.Common.{◌≡◌, ℕ, zero, suc, ◌+◌, ◌-◌, ◌≤◌, true, List, [], ◌∷◌, ◌++◌, length, map, replicate, refl, ap, sym, ◌∙◌, arith, length-append}
use Rattle.std.specs.List.{AllByRecursion}
use Rattle.std.proofs.lemmas.Bool.{false≢true, and_parts, and_from as and_true}
use Rattle.std.proofs.lemmas.List.{map-append}
use Rattle.std.proofs.lemmas.List.Concat.{flat_map-cons}
use Rattle.schema.specs.declared.value.Repetition.TheVariants.{Optional}
use Rattle.schema.specs.Values.{ValueTree, null, group, ValueTrees, no_values, value as item, member_at}
use Rattle.schema.specs.Shape.{Field, leaf, fields, Fields, no_fields, field, repetition_of}
use Rattle.schema.specs.Stripe.{Step, Leaf, leaves, leaves_from, leaves_of, below, column, columns, stripe, stripe_as}
use Rattle.schema.specs.Fits.{fits, fits_each, RowsFit}
use Rattle.schema.specs.Fronts.{first_fields, fields_after, AreOptional, padded, absent_entry, PaddedRowsFit, WholeRowsArePadded, PaddingComposes, PaddedRowsHaveColumns}
use Rattle.schema.proofs.FrontLeaves.{leaves_split}

pub null_fits : (f : Field) → repetition_of f ≡ Optional → fits f null ≡ true
null_fits (leaf n r t) e = rw e refl
null_fits (fields n r a fs) e = rw e refl

nulls_fit : (fs : Fields) → AreOptional fs → fits_each fs (padded fs no_values) ≡ true
nulls_fit no_fields h = refl
nulls_fit (field f fs) h = and_true _ _ (null_fits f h.0) (nulls_fit fs h.1)

fit : (n : ℕ) (fs : Fields) (row : ValueTrees) → AreOptional (fields_after n fs) → fits_each (first_fields n fs) row ≡ true → fits_each fs (padded fs row) ≡ true
fit zero fs no_values h r = nulls_fit fs h
fit zero fs (item v vs) h r = absurd (false≢true r)
fit (suc n) no_fields no_values h r = refl
fit (suc n) no_fields (item v vs) h r = absurd (false≢true r)
fit (suc n) (field f fs) no_values h r = absurd (false≢true r)
fit (suc n) (field f fs) (item v vs) h r =
    let parts = and_parts (fits f v) (fits_each (first_fields n fs) vs) r in
    and_true _ _ parts.0 (fit n fs vs h parts.1)

pub padded_rows_fit : PaddedRowsFit
padded_rows_fit n fs row h r = fit n fs row h.optional r

pub whole_rows_are_padded : WholeRowsArePadded
whole_rows_are_padded no_fields row h = refl
whole_rows_are_padded (field f fs) no_values h = absurd (false≢true h)
whole_rows_are_padded (field f fs) (item v vs) h = ap (item v) (whole_rows_are_padded fs vs (and_parts (fits f v) (fits_each fs vs) h).1)

pub padding_composes : PaddingComposes
padding_composes zero fs row = refl
padding_composes (suc n) no_fields row = refl
padding_composes (suc n) (field f fs) no_values = ap (item null) (padding_composes n fs no_values)
padding_composes (suc n) (field f fs) (item v vs) = ap (item v) (padding_composes n fs vs)

-- ---- columns

member_none : (p : ℕ) → member_at p no_values ≡ null
member_none zero = refl
member_none (suc p) = refl

-- a padded row has the same values: what is not there is null
pub member_padded : (p : ℕ) (fs : Fields) (row : ValueTrees) → member_at p (padded fs row) ≡ member_at p row
member_padded p no_fields row = refl
member_padded zero (field f fs) no_values = refl
member_padded (suc p) (field f fs) no_values = member_padded p fs no_values ∙ member_none p
member_padded zero (field f fs) (item v vs) = refl
member_padded (suc p) (field f fs) (item v vs) = member_padded p fs vs

module _ (grow : ValueTrees → ValueTrees) (same : (p : ℕ) (row : ValueTrees) → member_at p (grow row) ≡ member_at p row) where
  one_column : (s : Step) (steps : List Step) (rows : List ValueTrees) → column (map grow rows) (s ∷ steps) ≡ column rows (s ∷ steps)
  one_column s steps [] = refl
  one_column s steps (row ∷ rows) =
      let gives = λ (r : ValueTrees). stripe (s ∷ steps) (group r) 0 0 0 in
      flat_map-cons gives (grow row) (map grow rows)
      ∙ ap (λ (v : ValueTree). stripe_as s.repetition (stripe steps) v 0 0 0 ++ column (map grow rows) (s ∷ steps)) (same s.place row)
      ∙ ap (λ es. gives row ++ es) (one_column s steps rows)
      ∙ sym (flat_map-cons gives row rows)

  below_columns : (i : ℕ) (f : Field) (rows : List ValueTrees) (ls : List Leaf) → map (λ (l : Leaf). column (map grow rows) l.steps) (map (below i f) ls) ≡ map (λ (l : Leaf). column rows l.steps) (map (below i f) ls)
  below_columns i f rows [] = refl
  below_columns i f rows (l ∷ ls) = λ k. one_column (record { place = i; repetition = repetition_of f }) l.steps rows k ∷ below_columns i f rows ls k

  pub same_columns : (i : ℕ) (fs : Fields) (rows : List ValueTrees) → map (λ (l : Leaf). column (map grow rows) l.steps) (leaves_from i fs) ≡ map (λ (l : Leaf). column rows l.steps) (leaves_from i fs)
  same_columns i no_fields rows = refl
  same_columns i (field f fs) rows =
      let column_of = λ (l : Leaf). column rows l.steps in
      let grown = λ (l : Leaf). column (map grow rows) l.steps in
      map-append grown (map (below i f) (leaves f)) (leaves_from (suc i) fs)
      ∙ ap (λ cs. cs ++ map grown (leaves_from (suc i) fs)) (below_columns i f rows (leaves f))
      ∙ ap (λ cs. map column_of (map (below i f) (leaves f)) ++ cs) (same_columns (suc i) fs rows)
      ∙ sym (map-append column_of (map (below i f) (leaves f)) (leaves_from (suc i) fs))

-- rows that are null from some place on
abbrev AreNullFrom : ℕ → List ValueTrees → Type 0
AreNullFrom i rows = AllByRecursion (λ row. (p : ℕ) → i ≤ p → member_at p row ≡ null) rows

later_null : (i : ℕ) (rows : List ValueTrees) → AreNullFrom i rows → AreNullFrom (suc i) rows
later_null i [] h = tt
later_null i (row ∷ rows) h = (λ p past. h.0 p (omega (arith, past)), later_null i rows h.1)

null_column : (i : ℕ) (f : Field) (steps : List Step) (rows : List ValueTrees) → repetition_of f ≡ Optional → AreNullFrom i rows
    → column rows (record { place = i; repetition = repetition_of f } ∷ steps) ≡ replicate (length rows) absent_entry
null_column i f steps [] o h = refl
null_column i f steps (row ∷ rows) o h =
    let s : Step = record { place = i; repetition = repetition_of f } in
    flat_map-cons (λ (r : ValueTrees). stripe (s ∷ steps) (group r) 0 0 0) row rows
    ∙ ap (λ (v : ValueTree). stripe_as s.repetition (stripe steps) v 0 0 0 ++ column rows (s ∷ steps)) (h.0 i (omega arith))
    ∙ ap (λ r. stripe_as r (stripe steps) null 0 0 0 ++ column rows (s ∷ steps)) o
    ∙ ap (λ es. absent_entry ∷ es) (null_column i f steps rows o h.1)

null_below : (i : ℕ) (f : Field) (rows : List ValueTrees) (ls : List Leaf) → repetition_of f ≡ Optional → AreNullFrom i rows
    → map (λ (l : Leaf). column rows l.steps) (map (below i f) ls) ≡ replicate (length (map (below i f) ls)) (replicate (length rows) absent_entry)
null_below i f rows [] o h = refl
null_below i f rows (l ∷ ls) o h = λ k. null_column i f l.steps rows o h k ∷ null_below i f rows ls o h k

replicate_both : {A : Type 0} (n m : ℕ) (x : A) → replicate n x ++ replicate m x ≡ replicate (n + m) x
replicate_both zero m x = let e : m ≡ 0 + m = omega arith in ap (λ k. replicate k x) e
replicate_both (suc n) m x = let e : suc (n + m) ≡ suc n + m = omega arith in ap (λ xs. x ∷ xs) (replicate_both n m x) ∙ ap (λ k. replicate k x) e

null_columns : (i : ℕ) (fs : Fields) (rows : List ValueTrees) → AreOptional fs → AreNullFrom i rows
    → map (λ (l : Leaf). column rows l.steps) (leaves_from i fs) ≡ replicate (length (leaves_from i fs)) (replicate (length rows) absent_entry)
null_columns i no_fields rows o h = refl
null_columns i (field f fs) rows o h =
    let here = map (below i f) (leaves f) in
    let later = leaves_from (suc i) fs in
    let nulls = replicate (length rows) absent_entry in
    map-append (λ (l : Leaf). column rows l.steps) here later
    ∙ ap (λ cs. cs ++ map (λ (l : Leaf). column rows l.steps) later) (null_below i f rows (leaves f) o.0 h)
    ∙ ap (λ cs. replicate (length here) nulls ++ cs) (null_columns (suc i) fs rows o.1 (later_null i rows h))
    ∙ replicate_both (length here) (length later) nulls
    ∙ ap (λ n. replicate n nulls) (sym (length-append here later))

null_past : (n : ℕ) (fs : Fields) (row : ValueTrees) → fits_each (first_fields n fs) row ≡ true → (p : ℕ) → n ≤ p → member_at p row ≡ null
null_past n fs no_values r p h = member_none p
null_past zero fs (item v vs) r p h = absurd (false≢true r)
null_past (suc n) no_fields (item v vs) r p h = absurd (false≢true r)
null_past (suc n) (field f fs) (item v vs) r zero h = absurd (omega (arith, h))
null_past (suc n) (field f fs) (item v vs) r (suc p) h = null_past n fs vs (and_parts (fits f v) (fits_each (first_fields n fs) vs) r).1 p (omega (arith, h))

nulls_past : (n : ℕ) (fs : Fields) (rows : List ValueTrees) → RowsFit (first_fields n fs) rows → AreNullFrom n rows
nulls_past n fs [] r = tt
nulls_past n fs (row ∷ rows) r = (null_past n fs row r.0, nulls_past n fs rows r.1)

pub padded_rows_have_columns : PaddedRowsHaveColumns
padded_rows_have_columns n fs rows h r =
    let column_of = λ (l : Leaf). column rows l.steps in
    let first = leaves_of (first_fields n fs) in
    let others = leaves_from n (fields_after n fs) in
    let whole : leaves_of fs ≡ first ++ others = leaves_split n 0 fs ∙ (let e : 0 + n ≡ n = omega arith in ap (λ k. first ++ leaves_from k (fields_after n fs)) e) in
    let left : length others ≡ length (leaves_of fs) - length first = omega (arith, ap length whole, length-append first others) in
    same_columns (padded fs) (λ p row. member_padded p fs row) 0 fs rows
    ∙ ap (map column_of) whole
    ∙ map-append column_of first others
    ∙ ap (λ cs. columns (first_fields n fs) rows ++ cs) (null_columns n (fields_after n fs) rows h.optional (nulls_past n fs rows r))
    ∙ ap (λ k. columns (first_fields n fs) rows ++ replicate k (replicate (length rows) absent_entry)) left
