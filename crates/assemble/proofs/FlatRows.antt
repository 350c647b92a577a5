-- The rows of a flat schema, made of its columns: field by field, one value is put at the beginning of each row.
use Rattle.std.proofs.Common.{◌≡◌, ℕ, zero, suc, ◌<◌, true, List, [], ◌∷◌, ◌++◌, map, length, Option, Some, None, refl, sym, ap, ◌∙◌, arith}
use Rattle.std.specs.Prelude.{MatchOption, IsTrue}
use Rattle.std.specs.List.{AllByRecursion}
use Rattle.std.proofs.lemmas.Bool.{false≢true}
use Rattle.schema.specs.declared.value.Repetition.TheVariants.{Required, Optional, Repeated}
use Rattle.schema.specs.Annotations.{LeafType}
use Rattle.schema.specs.Values.{ValueTree, ValueTrees, no_values, value as item}
use Rattle.schema.specs.Shape.{leaf, fields, Fields, no_fields, field}
use Rattle.schema.specs.Fits.{fits_leaf, fits_each, RowsFit}
use Rattle.schema.specs.Stripe.{Leaf, Step, Entry, leaves_from, column}
use Rattle.schema.specs.Law.{IsEntry}
use Rattle.assemble.specs.Columns.{Columns}
use Rattle.assemble.specs.Flat.{is_flat, HaveEntries, FlatColumnsHaveRows}

-- ---- the values of a column

abbrev an_entry : ℕ → ℕ → Option ValueTree → Entry
an_entry r d o = record { repetition = r; definition = d; value = o }

abbrev pub of_value : ValueTree → Entry
of_value v = an_entry 0 0 (Some v)

value_of : (t : LeafType) (e : Entry) → IsEntry 0 0 t e → (v : ValueTree) × ((e ≡ of_value v) × (fits_leaf t v ≡ true))
value_of t e h = by e.value refl h.value
  where
    repetition : e.repetition ≡ 0
    repetition = let r = h.repetition in omega (arith, r)

    by : (o : Option ValueTree) → e.value ≡ o → MatchOption o (e.definition < 0) (λ v. (e.definition ≡ 0) × IsTrue (fits_leaf t v)) → (v : ValueTree) × ((e ≡ of_value v) × (fits_leaf t v ≡ true))
    by None is h = absurd (omega (arith, h))
    by (Some v) is h = (
      v,
      (
        ap (λ (r : ℕ). an_entry r e.definition e.value) repetition ∙ ap (λ (d : ℕ). an_entry 0 d e.value) h.0 ∙ ap (λ (o : Option ValueTree). an_entry 0 0 o) is,
        h.1,
      ),
    )

-- the values of a column's entries
record AreValuesOf (t : LeafType) (es : List Entry) : Type 0 where
  vs : List ValueTree
  size : length vs ≡ length es
  fit : AllByRecursion (λ v. fits_leaf t v ≡ true) vs
  are : es ≡ map of_value vs

values_of : (t : LeafType) (es : List Entry) → AllByRecursion (IsEntry 0 0 t) es → AreValuesOf t es
values_of t [] h = record { vs = []; size = refl; fit = tt; are = refl }
values_of t (e ∷ es) h =
    let v = value_of t e h.0 in
    let r = values_of t es h.1 in
    record { vs = v.0 ∷ r.vs; size = ap suc r.size; fit = (v.1.1, r.fit); are = ap (λ (x : Entry). x ∷ es) v.1.0 ∙ ap (λ (xs : List Entry). of_value v.0 ∷ xs) r.are }

-- ---- a value more at the beginning of each row

abbrev beside : List ValueTree → List ValueTrees → List ValueTrees
beside (v ∷ vs) (row ∷ rows) = item v row ∷ beside vs rows
beside _ _ = []

beside_size : (vs : List ValueTree) (rows : List ValueTrees) → length vs ≡ length rows → length (beside vs rows) ≡ length rows
beside_size [] [] e = refl
beside_size [] (row ∷ rows) e = absurd (omega (arith, e))
beside_size (v ∷ vs) [] e = absurd (omega (arith, e))
beside_size (v ∷ vs) (row ∷ rows) e = ap suc (beside_size vs rows (omega (arith, e)))

both : (n : List ℕ) (t : LeafType) (fs : Fields) (v : ValueTree) (row : ValueTrees) → fits_leaf t v ≡ true → fits_each fs row ≡ true → fits_each (field (leaf n Required t) fs) (item v row) ≡ true
both n t fs v row p q = rw (p, q) refl

beside_fit : (n : List ℕ) (t : LeafType) (fs : Fields) (vs : List ValueTree) (rows : List ValueTrees) → AllByRecursion (λ v. fits_leaf t v ≡ true) vs → RowsFit fs rows → RowsFit (field (leaf n Required t) fs) (beside vs rows)
beside_fit n t fs [] rows p q = tt
beside_fit n t fs (v ∷ vs) [] p q = tt
beside_fit n t fs (v ∷ vs) (row ∷ rows) p q = (both n t fs v row p.0 q.0, beside_fit n t fs vs rows p.1 q.1)

abbrev pub at : ℕ → List Step
at i = record { place = i; repetition = Required } ∷ []

first_column : (vs : List ValueTree) (rows : List ValueTrees) → length vs ≡ length rows → column (beside vs rows) (at 0) ≡ map of_value vs
first_column [] rows e = refl
first_column (v ∷ vs) [] e = absurd (omega (arith, e))
first_column (v ∷ vs) (row ∷ rows) e = ap (λ (es : List Entry). of_value v ∷ es) (first_column vs rows (omega (arith, e)))

later_column : (i : ℕ) (vs : List ValueTree) (rows : List ValueTrees) → length vs ≡ length rows → column (beside vs rows) (at (suc i)) ≡ column rows (at i)
later_column i [] [] e = refl
later_column i [] (row ∷ rows) e = absurd (omega (arith, e))
later_column i (v ∷ vs) [] e = absurd (omega (arith, e))
later_column i (v ∷ vs) (row ∷ rows) e = ap (λ (es : List Entry). column (row ∷ []) (at i) ++ es) (later_column i vs rows (omega (arith, e)))

-- the columns of some fields, the first of which has this place
abbrev pub columns_from : ℕ → Fields → List ValueTrees → Columns
columns_from i fs rows = map (λ (l : Leaf). column rows l.steps) (leaves_from i fs)

later_columns : (i : ℕ) (fs : Fields) (vs : List ValueTree) (rows : List ValueTrees) → is_flat fs ≡ true → length vs ≡ length rows → columns_from (suc i) fs (beside vs rows) ≡ columns_from i fs rows
later_columns i no_fields vs rows flat e = refl
later_columns i (field (leaf n Required t) fs) vs rows flat e =
    ap (λ (c : List Entry). c ∷ columns_from (suc (suc i)) fs (beside vs rows)) (later_column i vs rows e)
    ∙ ap (λ (cs : Columns). column rows (at i) ∷ cs) (later_columns (suc i) fs vs rows flat e)
later_columns i (field (leaf n Optional t) fs) vs rows flat e = absurd (false≢true flat)
later_columns i (field (leaf n Repeated t) fs) vs rows flat e = absurd (false≢true flat)
later_columns i (field (fields n r a gs) fs) vs rows flat e = absurd (false≢true flat)

-- ---- field by field

abbrev empty_rows : ℕ → List ValueTrees
empty_rows zero = []
empty_rows (suc n) = no_values ∷ empty_rows n

empty_size : (n : ℕ) → length (empty_rows n) ≡ n
empty_size zero = refl
empty_size (suc n) = ap suc (empty_size n)

empty_fit : (n : ℕ) → RowsFit no_fields (empty_rows n)
empty_fit zero = tt
empty_fit (suc n) = (refl, empty_fit n)

record HasRows (i n : ℕ) (fs : Fields) (cs : Columns) : Type 0 where
  rows : List ValueTrees
  size : length rows ≡ n
  fit : RowsFit fs rows
  have : columns_from 0 fs rows ≡ cs

rows_of : (i n : ℕ) (fs : Fields) (cs : Columns) → is_flat fs ≡ true → HaveEntries n (leaves_from i fs) cs → HasRows i n fs cs
rows_of i n no_fields [] flat h = record { rows = empty_rows n; size = empty_size n; fit = empty_fit n; have = refl }
rows_of i n no_fields (es ∷ cs) flat h = absurd h
rows_of i n (field (leaf m Required t) fs) [] flat h = absurd h
rows_of i n (field (leaf m Required t) fs) (es ∷ cs) flat h =
    let later = rows_of (suc i) n fs cs flat h.2 in
    let first = values_of t es h.1 in
    let same : length first.vs ≡ length later.rows = first.size ∙ h.0 ∙ sym later.size in
    record {
      rows = beside first.vs later.rows;
      size = beside_size first.vs later.rows same ∙ later.size;
      fit = beside_fit m t fs first.vs later.rows first.fit later.fit;
      have = ap (λ (c : List Entry). c ∷ columns_from 1 fs (beside first.vs later.rows)) (first_column first.vs later.rows same ∙ sym first.are)
          ∙ ap (λ (c : Columns). es ∷ c) (later_columns 0 fs first.vs later.rows flat same ∙ later.have);
    }
rows_of i n (field (leaf m Optional t) fs) cs flat h = absurd (false≢true flat)
rows_of i n (field (leaf m Repeated t) fs) cs flat h = absurd (false≢true flat)
rows_of i n (field (fields m r a gs) fs) cs flat h = absurd (false≢true flat)

pub flat_columns_have_rows : FlatColumnsHaveRows
flat_columns_have_rows fs n cs flat h = let r = rows_of 0 n fs cs flat h in (r.rows, (r.size, record { fit = r.fit; have = r.have }))
