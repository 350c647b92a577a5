-- Rows that are cut to the columns of a query: the values at the other places go, or those at its places are taken.
use Rattle.std.proofs.Common.{◌≡◌, ◌≤◌, ◌<◌, ◌+◌, ℕ, zero, suc, Bool, true, false, not, ◌||◌, nat_eq, List, [], ◌∷◌, map, filter, refl, sym, ◌∙◌, ap, subst, arith, eqb-true, add-zero}
use Rattle.std.specs.Prelude.{if◌then◌else◌, cond}
use Rattle.std.specs.List.{AllByRecursion}
use Rattle.lists.proofs.Numbers.{nat_eq_itself as alike}
use Rattle.schema.specs.Values.{ValueTree, ValueTrees, no_values, value as item, trees_of, member_at}
use Rattle.schema.specs.Shape.{Fields, no_fields, field, count, name_of}
use Rattle.schema.specs.Cutting.{is_among}
use Rattle.schema.specs.Keys.{KeyColumn, AreKeys, values_besides, without_keys, width, AreRowsOf}
use Rattle.schema.specs.Fronts.{padded}
use Rattle.schema.proofs.Grown.{keys_and_others}
use Rattle.scan.specs.Selected.{cut_to}
use Rattle.table.specs.Cursors.{Columns, is_wanted, wanted_places, cut}

unlike : (m n : ℕ) → m < n → nat_eq n m ≡ false
unlike m n low = by (nat_eq n m) refl
  where
    by : (b : Bool) → nat_eq n m ≡ b → nat_eq n m ≡ false
    by true e = let same = eqb-true n m e in absurd (omega (arith, same, low))
    by false e = e

-- no place comes before the first
none_before : (columns : Columns) (i : ℕ) (fs : Fields) (j : ℕ) → j < i → is_among (wanted_places columns i fs) j ≡ false
none_before columns i no_fields j low = refl
none_before columns i (field f fs) j low = by (is_wanted columns (name_of f)) (none_before columns (suc i) fs j (omega (arith, low)))
  where
    by : (b : Bool) → is_among (wanted_places columns (suc i) fs) j ≡ false → is_among (if b then i ∷ wanted_places columns (suc i) fs else wanted_places columns (suc i) fs) j ≡ false
    by true r = ap (λ (c : Bool). c || is_among (wanted_places columns (suc i) fs) j) (unlike j i low) ∙ r
    by false r = r

module _ (columns : Columns) (row : ValueTrees) (test : ℕ → Bool) where
  abbrev taken : List ℕ → ValueTrees
  taken places = trees_of (map (λ i. member_at i row) places)

  -- from a place on, where these are the values of the row
  from : (i : ℕ) (fs : Fields) (vs : ValueTrees) → count fs ≤ width vs → ((k : ℕ) → member_at (i + k) row ≡ member_at k vs) → ((j : ℕ) → i ≤ j → test j ≡ is_among (wanted_places columns i fs) j)
      → values_besides (λ j. not (test j)) i vs ≡ taken (wanted_places columns i fs)
  from i no_fields no_values wide same are = refl
  from i no_fields (item v vs) wide same are =
      subst (λ (b : Bool). cond (not b) (values_besides (λ j. not (test j)) (suc i) vs) (item v (values_besides (λ j. not (test j)) (suc i) vs)) ≡ no_values) (sym (are i (omega arith)))
      (from (suc i) no_fields vs (omega arith) (λ k. ap (λ (n : ℕ). member_at n row) (omega arith) ∙ same (suc k)) (λ j le. are j (omega (arith, le))))
  from i (field f fs) no_values wide same are = absurd (omega (arith, wide))
  from i (field f fs) (item v vs) wide same are = by (is_wanted columns (name_of f)) are (from (suc i) fs vs (omega (arith, wide)) (λ k. ap (λ (n : ℕ). member_at n row) (omega arith) ∙ same (suc k)))
    where
      rest : List ℕ
      rest = wanted_places columns (suc i) fs

      by : (b : Bool) → ((j : ℕ) → i ≤ j → test j ≡ is_among (if b then i ∷ rest else rest) j)
          → (((j : ℕ) → suc i ≤ j → test j ≡ is_among rest j) → values_besides (λ j. not (test j)) (suc i) vs ≡ taken rest)
          → cond (not (test i)) (values_besides (λ j. not (test j)) (suc i) vs) (item v (values_besides (λ j. not (test j)) (suc i) vs)) ≡ taken (if b then i ∷ rest else rest)
      by true h go =
          let here : test i ≡ true = h i (omega arith) ∙ ap (λ (c : Bool). c || is_among rest i) (alike i) in
          let value_is : member_at i row ≡ v = ap (λ (n : ℕ). member_at n row) (sym (add-zero i)) ∙ same zero in
          let more = go (λ j le. h j (omega (arith, le)) ∙ ap (λ (c : Bool). c || is_among rest j) (by_less j le)) in
          ap (λ (b : Bool). cond (not b) (values_besides (λ j. not (test j)) (suc i) vs) (item v (values_besides (λ j. not (test j)) (suc i) vs))) here
          ∙ ap (λ (w : ValueTree). item w (values_besides (λ j. not (test j)) (suc i) vs)) (sym value_is) ∙ ap (λ (ws : ValueTrees). item (member_at i row) ws) more
        where
          by_less : (j : ℕ) → suc i ≤ j → nat_eq i j ≡ false
          by_less j le = unlike_back (nat_eq i j) refl
            where
              unlike_back : (b : Bool) → nat_eq i j ≡ b → nat_eq i j ≡ false
              unlike_back true e = let eq = eqb-true i j e in absurd (omega (arith, eq, le))
              unlike_back false e = e
      by false h go =
          let here : test i ≡ false = h i (omega arith) ∙ none_before columns (suc i) fs i (omega arith) in
          ap (λ (b : Bool). cond (not b) (values_besides (λ j. not (test j)) (suc i) vs) (item v (values_besides (λ j. not (test j)) (suc i) vs))) here ∙ go (λ j le. h j (omega (arith, le)))

pub cut_same : (columns : Columns) (fs : Fields) (row : ValueTrees) → count fs ≤ width row → cut_to (wanted_places columns 0 fs) row ≡ cut (wanted_places columns 0 fs) row
cut_same columns fs row wide = from columns row (is_among (wanted_places columns 0 fs)) 0 fs row wide (λ k. ap (λ (n : ℕ). member_at n row) (omega arith)) (λ j le. refl)

-- so it is of those that are picked
pub cut_each : (columns : Columns) (fs : Fields) (test : ValueTrees → Bool) (rows : List ValueTrees) → AllByRecursion (λ row. count fs ≤ width row) rows
    → map (cut_to (wanted_places columns 0 fs)) (filter test rows) ≡ map (cut (wanted_places columns 0 fs)) (filter test rows)
cut_each columns fs test [] h = refl
cut_each columns fs test (row ∷ rows) h = by (test row) (cut_each columns fs test rows h.1)
  where
    by : (b : Bool) → map (cut_to (wanted_places columns 0 fs)) (filter test rows) ≡ map (cut (wanted_places columns 0 fs)) (filter test rows)
        → map (cut_to (wanted_places columns 0 fs)) (if b then row ∷ filter test rows else filter test rows) ≡ map (cut (wanted_places columns 0 fs)) (if b then row ∷ filter test rows else filter test rows)
    by true r = ap (λ (x : ValueTrees). x ∷ map (cut_to (wanted_places columns 0 fs)) (filter test rows)) (cut_same columns fs row h.0) ∙ ap (λ (xs : List ValueTrees). cut (wanted_places columns 0 fs) row ∷ xs) r
    by false r = r

-- ---- how wide the rows of a part file are

pad_wide : (fs : Fields) (row : ValueTrees) → count fs ≤ width (padded fs row)
pad_wide no_fields row = omega arith
pad_wide (field f fs) no_values = let r = pad_wide fs no_values in omega (arith, r)
pad_wide (field f fs) (item v vs) = let r = pad_wide fs vs in omega (arith, r)

pub all_wide : (keys : List KeyColumn) (fs : Fields) (key : List ValueTree) → AreKeys keys fs → (stored rows : List ValueTrees) → AreRowsOf keys key (map (padded (without_keys keys fs)) stored) rows
    → AllByRecursion (λ row. count fs ≤ width row) rows
all_wide keys fs key k [] [] h = tt
all_wide keys fs key k (s ∷ stored) (row ∷ rows) h = ((let a = h.0.whole in let b = pad_wide (without_keys keys fs) s in let c = keys_and_others keys fs k in omega (arith, a, b, c)), all_wide keys fs key k stored rows h.1)
all_wide keys fs key k [] (row ∷ rows) h = absurd h
all_wide keys fs key k (s ∷ stored) [] h = absurd h
