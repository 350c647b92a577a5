-- The rows of a query: those of the batches that it gives, which are rows of the wanted columns.
use Rattle.std.proofs.Common.{◌≡◌, ℕ, Bool, true, false, nat_lt, List, [], ◌∷◌, ◌++◌, map, filter, length, Option, if◌then◌else◌, refl, sym, ◌∙◌, ap, subst, append-nil, arith}
use Rattle.std.specs.List.{AllByRecursion}
use Rattle.std.proofs.lemmas.Bool.{ltb-false}
use Rattle.std.proofs.lemmas.List.{map-append}
use Rattle.std.proofs.lemmas.List.Elements.{filter-append}
use Rattle.std.proofs.lemmas.Grind.{flat_map-append}
use Rattle.schema.specs.Shape.{Fields}
use Rattle.schema.specs.Keys.{KeyColumn}
use Rattle.schema.specs.Values.{ValueTrees}
use Rattle.schema.specs.Fits.{RowsFit}
use Rattle.table.specs.Table.{Row, Group, Table, IsTable, IsRowIn, IsGroupIn, rows}
use Rattle.table.specs.Deciding.{Filter, satisfies}
use Rattle.table.specs.Cursors.{Batch, Columns, wanted_places, cut, batch_of, batches_of, batches}
use Rattle.columns.specs.Columns.{fields_at, fields_in}
use Rattle.answers.specs.QueryFile.{wanted_fields, query_rows}
use Rattle.answers.specs.inner.Fetched.{rows_of_each}
use Rattle.answers.proofs.Wanted.{fits_cut}

-- ---- rows

module _ (places : List ℕ) (test : Row → Bool) where
  abbrev shown : List Row → List ValueTrees
  shown rs = map (cut places) (filter test rs)

  shown_more : (xs ys : List Row) → shown (xs ++ ys) ≡ shown xs ++ shown ys
  shown_more xs ys = ap (map (cut places)) (filter-append test xs ys) ∙ map-append (cut places) (filter test xs) (filter test ys)

  none_left : (b : Batch) → nat_lt 0 (length b.rows) ≡ false → b.rows ≡ []
  none_left b e = by b.rows e
    where
      by : (rs : List Row) → nat_lt 0 (length rs) ≡ false → rs ≡ []
      by [] h = refl
      by (r ∷ rs) h = let none = ltb-false 0 (length (r ∷ rs)) h in absurd (omega (arith, none))

  rows_of_batches : (groups : List Group) → rows_of_each (batches_of test places groups) ≡ shown (rows groups)
  rows_of_batches [] = refl
  rows_of_batches (g ∷ gs) = by (nat_lt 0 (length (batch_of test places g).rows)) refl ∙ (ap (λ rs. shown g.rows ++ rs) (rows_of_batches gs) ∙ sym (shown_more g.rows (rows gs)))
    where
      by : (b : Bool) → nat_lt 0 (length (batch_of test places g).rows) ≡ b
          → rows_of_each (if b then batch_of test places g ∷ batches_of test places gs else batches_of test places gs) ≡ shown g.rows ++ rows_of_each (batches_of test places gs)
      by true e = refl
      by false e = ap (λ rs. rs ++ rows_of_each (batches_of test places gs)) (sym (none_left (batch_of test places g) e))

pub rows_of_query : (terms : Filter) (columns : Columns) (t : Table) → rows_of_each (batches terms columns t) ≡ query_rows terms columns t
rows_of_query terms columns t = rows_of_batches (wanted_places columns 0 t.schema) (satisfies t.schema terms) t.groups

pub rows_one_more : (bs : List Batch) (b : Batch) → rows_of_each (bs ++ b ∷ []) ≡ rows_of_each bs ++ b.rows
rows_one_more bs b = flat_map-append (λ (x : Batch). x.rows) bs (b ∷ []) ∙ ap (λ (rs : List ValueTrees). rows_of_each bs ++ rs) (append-nil b.rows)

-- what was found of a schema is its wanted columns
pub are_wanted : (columns : Columns) (found : Option Fields) (places made : List ℕ) (first again fs : Fields) → first ≡ fs → again ≡ fs → places ≡ made → made ≡ wanted_places columns 0 first → fields_in found ≡ fields_at places 0 again
    → fields_in found ≡ wanted_fields columns fs
are_wanted columns found places made first again fs is_first is_again is_made wanted are =
    are ∙ (ap (λ (ps : List ℕ). fields_at ps 0 again) (is_made ∙ wanted) ∙ (ap (λ (f : Fields). fields_at (wanted_places columns 0 f) 0 again) is_first ∙ ap (λ (f : Fields). fields_at (wanted_places columns 0 fs) 0 f) is_again))

-- ---- what fits

both_fit : (fs : Fields) (rs others : List ValueTrees) → RowsFit fs rs → RowsFit fs others → RowsFit fs (rs ++ others)
both_fit fs [] others x y = y
both_fit fs (r ∷ rs) others x y = (x.0, both_fit fs rs others x.1 y)

pub front_fits : (fs : Fields) (rs others : List ValueTrees) → RowsFit fs (rs ++ others) → RowsFit fs rs
front_fits fs [] others fit = tt
front_fits fs (r ∷ rs) others fit = (fit.0, front_fits fs rs others fit.1)

pub others_fit : (fs : Fields) (rs others : List ValueTrees) → RowsFit fs (rs ++ others) → RowsFit fs others
others_fit fs [] others fit = fit
others_fit fs (r ∷ rs) others fit = others_fit fs rs others fit.1

module _ (schema : Fields) (keys : List KeyColumn) (columns : Columns) (test : Row → Bool) where
  rows_fit : (key : _) (rs : List Row) → AllByRecursion (IsRowIn schema keys key) rs → RowsFit (wanted_fields columns schema) (shown (wanted_places columns 0 schema) test rs)
  rows_fit key [] all = tt
  rows_fit key (r ∷ rs) all = by (test r) (rows_fit key rs all.1)
    where
      by : (b : Bool) → RowsFit (wanted_fields columns schema) (shown (wanted_places columns 0 schema) test rs)
          → RowsFit (wanted_fields columns schema) (map (cut (wanted_places columns 0 schema)) (if b then r ∷ filter test rs else filter test rs))
      by true rest = (fits_cut columns schema r all.0.fits, rest)
      by false rest = rest

  groups_fit : (groups : List Group) → AllByRecursion (IsGroupIn schema keys) groups → RowsFit (wanted_fields columns schema) (shown (wanted_places columns 0 schema) test (rows groups))
  groups_fit [] all = tt
  groups_fit (g ∷ gs) all =
      let places = wanted_places columns 0 schema in
      subst (RowsFit (wanted_fields columns schema)) (sym (shown_more places test g.rows (rows gs)))
      (both_fit (wanted_fields columns schema) (shown places test g.rows) (shown places test (rows gs)) (rows_fit g.key g.rows all.0.rows_in) (groups_fit gs all.1))

pub query_fits : (terms : Filter) (columns : Columns) (t : Table) → IsTable t → RowsFit (wanted_fields columns t.schema) (query_rows terms columns t)
query_fits terms columns t is = groups_fit t.schema t.keys columns (satisfies t.schema terms) t.groups is.each
