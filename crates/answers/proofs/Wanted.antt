-- The wanted columns of a schema, and the rows of a table cut to them.
use Rattle.std.proofs.Common.{◌≡◌, ◌≤◌, ◌<◌, ◌+◌, ℕ, suc, Bool, true, false, ◌||◌, nat_eq, List, ◌∷◌, map, if◌then◌else◌, refl, sym, ◌∙◌, ap, arith}
use Rattle.std.proofs.lemmas.Bool.{eqb-true, and_parts as both}
use Rattle.lists.proofs.Numbers.{nat_eq_above as other, nat_eq_itself as same_place}
use Rattle.schema.specs.Cutting.{is_among}
use Rattle.schema.specs.Shape.{Fields, no_fields, field, name_of}
use Rattle.schema.specs.Values.{ValueTrees, no_values, value, trees_of, member_at}
use Rattle.schema.specs.Fits.{fits, fits_each}
use Rattle.table.specs.Cursors.{Columns, is_wanted, wanted_places, cut}
use Rattle.answers.specs.Querying.{fields_at}

wrong : {A : Type 0} → true ≡ false → A
wrong e = absurd (cc)

-- the wanted fields, by their names
abbrev wanted_fields : Columns → Fields → Fields
wanted_fields columns no_fields = no_fields
wanted_fields columns (field f fs) = if is_wanted columns (name_of f) then field f (wanted_fields columns fs) else wanted_fields columns fs

-- places of later fields are no places of earlier ones
none_below : (columns : Columns) (i j : ℕ) (fs : Fields) → j < i → is_among (wanted_places columns i fs) j ≡ false
none_below columns i j no_fields low = refl
none_below columns i j (field f fs) low = by (is_wanted columns (name_of f)) (none_below columns (suc i) j fs (omega (arith, low)))
  where
    by : (b : Bool) → is_among (wanted_places columns (suc i) fs) j ≡ false → is_among (if b then i ∷ wanted_places columns (suc i) fs else wanted_places columns (suc i) fs) j ≡ false
    by true rest = ap (λ (b : Bool). b || is_among (wanted_places columns (suc i) fs) j) (other i j low) ∙ rest
    by false rest = rest

-- the fields at the wanted places are the wanted fields
fields_are : (columns : Columns) (places : List ℕ) (i : ℕ) (fs : Fields) → ((j : ℕ) → i ≤ j → is_among places j ≡ is_among (wanted_places columns i fs) j) → fields_at places i fs ≡ wanted_fields columns fs
fields_are columns places i no_fields all = refl
fields_are columns places i (field f fs) all = by (λ later. fields_are columns places (suc i) fs later) (is_wanted columns (name_of f)) refl
  where
    later : (b : Bool) → (j : ℕ) → suc i ≤ j → is_among (if b then i ∷ wanted_places columns (suc i) fs else wanted_places columns (suc i) fs) j ≡ is_among (wanted_places columns (suc i) fs) j
    later true j high = ap (λ (b : Bool). b || is_among (wanted_places columns (suc i) fs) j) (behind j high)
      where
        behind : (j : ℕ) → suc i ≤ j → nat_eq i j ≡ false
        behind j high = at (nat_eq i j) refl
          where
            at : (b : Bool) → nat_eq i j ≡ b → b ≡ false
            at false e = refl
            at true e = let same : i ≡ j = eqb-true i j e in absurd (omega (arith, high, same))
    later false j high = refl

    Rest : Type 0
    Rest = ((j : ℕ) → suc i ≤ j → is_among places j ≡ is_among (wanted_places columns (suc i) fs) j) → fields_at places (suc i) fs ≡ wanted_fields columns fs

    rest : Rest → (b : Bool) → is_wanted columns (name_of f) ≡ b → fields_at places (suc i) fs ≡ wanted_fields columns fs
    rest go b e = go
        (λ j high. all j (omega (arith, high)) ∙ ap (λ (b : Bool). is_among (if b then i ∷ wanted_places columns (suc i) fs else wanted_places columns (suc i) fs) j) e ∙ later b j high)

    here : (b : Bool) → is_wanted columns (name_of f) ≡ b → is_among (if b then i ∷ wanted_places columns (suc i) fs else wanted_places columns (suc i) fs) i ≡ b → is_among places i ≡ b
    here b e now = all i (omega arith) ∙ ap (λ (b : Bool). is_among (if b then i ∷ wanted_places columns (suc i) fs else wanted_places columns (suc i) fs) i) e ∙ now

    by : Rest → (b : Bool) → is_wanted columns (name_of f) ≡ b
        → (if is_among places i then field f (fields_at places (suc i) fs) else fields_at places (suc i) fs) ≡ (if b then field f (wanted_fields columns fs) else wanted_fields columns fs)
    by go true e = rw (here true e (ap (λ (b : Bool). b || is_among (wanted_places columns (suc i) fs) i) (same_place i))) (ap (λ gs. field f gs) (rest go true e))
    by go false e = rw (here false e (none_below columns (suc i) i fs (omega arith))) (rest go false e)

pub wanted_ones : (columns : Columns) (fs : Fields) → fields_at (wanted_places columns 0 fs) 0 fs ≡ wanted_fields columns fs
wanted_ones columns fs = fields_are columns (wanted_places columns 0 fs) 0 fs (λ j high. refl)

-- a row that fits is cut to one that fits the wanted fields
cut_fits : (columns : Columns) (whole : ValueTrees) (i : ℕ) (fs : Fields) (vs : ValueTrees) → ((j : ℕ) → member_at (i + j) whole ≡ member_at j vs) → fits_each fs vs ≡ true
    → fits_each (wanted_fields columns fs) (trees_of (map (λ k. member_at k whole) (wanted_places columns i fs))) ≡ true
cut_fits columns whole i no_fields vs at fit = refl
cut_fits columns whole i (field f fs) no_values at fit = wrong (sym fit)
cut_fits columns whole i (field f fs) (value v vs) at fit = by (is_wanted columns (name_of f))
    (cut_fits columns whole (suc i) fs vs (λ j. ap (λ k. member_at k whole) (omega arith) ∙ at (suc j)) (both (fits f v) (fits_each fs vs) fit).1)
  where
    here : member_at i whole ≡ v
    here = ap (λ k. member_at k whole) (omega arith) ∙ at 0

    by : (b : Bool) → fits_each (wanted_fields columns fs) (trees_of (map (λ k. member_at k whole) (wanted_places columns (suc i) fs))) ≡ true
        → fits_each (if b then field f (wanted_fields columns fs) else wanted_fields columns fs)
        (trees_of (map (λ k. member_at k whole) (if b then i ∷ wanted_places columns (suc i) fs else wanted_places columns (suc i) fs))) ≡ true
    by true rest = rw (here, (both (fits f v) (fits_each fs vs) fit).0) rest
    by false rest = rest

pub fits_cut : (columns : Columns) (fs : Fields) (row : ValueTrees) → fits_each fs row ≡ true → fits_each (fields_at (wanted_places columns 0 fs) 0 fs) (cut (wanted_places columns 0 fs) row) ≡ true
fits_cut columns fs row fit = rw (wanted_ones columns fs) (cut_fits columns row 0 fs row (λ j. ap (λ k. member_at k row) (omega arith)) fit)
