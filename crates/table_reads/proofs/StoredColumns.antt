-- Rows in the columns that a table's files have.
use Rattle.std.proofs.Common.{◌≡◌, ◌<◌, ◌+◌, ℕ, zero, suc, Bool, true, false, not, ◌||◌, nat_eq, List, [], ◌∷◌, map, refl, sym, ◌∙◌, ap, subst, arith, eq-eqb}
use Rattle.std.specs.Prelude.{if◌then◌else◌}
use Rattle.std.proofs.lemmas.Bool.Decides.{nat_tests}
use Rattle.lists.proofs.Numbers.{nat_eq_above as other_too}
use Rattle.schema.specs.Values.{no_values, value as item}
use Rattle.schema.specs.Shape.{Fields, no_fields, field, count}
use Rattle.schema.specs.Fits.{fits_each, RowsFit}
use Rattle.schema.specs.Cutting.{is_among}
use Rattle.schema.specs.Keys.{KeyColumn, places_of, width, without_keys, row_without_keys, values_besides}
use Rattle.scan.specs.Selected.{cut_to}
use Rattle.table.specs.Table.{Row}
use Rattle.table_commits.specs.Showing.{places_besides}
use Rattle.table_commits.proofs.RowsWithoutKeys.{row_fits}
use Rattle.table_reads.proofs.WholeRows.{whole_width}

other : (i m : ℕ) → i < m → nat_eq i m ≡ false
other i m low = grind (arith, nat_tests)

-- a place before the first is none of them
before_all : (keys : List ℕ) (i m : ℕ) (fs : Fields) → m < i → is_among (places_besides keys i fs) m ≡ false
before_all keys i m no_fields low = refl
before_all keys i m (field f fs) low = by (is_among keys i) (before_all keys (suc i) m fs (omega (arith, low)))
  where
    by : (b : Bool) → is_among (places_besides keys (suc i) fs) m ≡ false → is_among (if b then places_besides keys (suc i) fs else i ∷ places_besides keys (suc i) fs) m ≡ false
    by true r = r
    by false r = ap (λ (c : Bool). c || is_among (places_besides keys (suc i) fs) m) (other_too i m low) ∙ r

-- each place is one of them or one of the others
each_place : (keys : List ℕ) (i k : ℕ) (fs : Fields) → k < count fs → not (is_among (places_besides keys i fs) (i + k)) ≡ is_among keys (i + k)
each_place keys i k no_fields low = absurd (omega (arith, low))
each_place keys i zero (field f fs) low =
    let e : i ≡ i + 0 = omega arith in
    subst (λ (m : ℕ). not (is_among (places_besides keys i (field f fs)) m) ≡ is_among keys m) e (here (is_among keys i) refl)
  where
    here : (b : Bool) → is_among keys i ≡ b → not (is_among (if b then places_besides keys (suc i) fs else i ∷ places_besides keys (suc i) fs) i) ≡ is_among keys i
    here true e = ap not (before_all keys (suc i) i fs (omega arith)) ∙ sym e
    here false e = ap (λ (c : Bool). not (c || is_among (places_besides keys (suc i) fs) i)) (eq-eqb i i refl) ∙ sym e
each_place keys i (suc k) (field f fs) low =
    let e : suc i + k ≡ i + suc k = omega arith in
    subst (λ (m : ℕ). not (is_among (places_besides keys i (field f fs)) m) ≡ is_among keys m) e (there (is_among keys i) (each_place keys (suc i) k fs (omega (arith, low))))
  where
    there : (b : Bool) → not (is_among (places_besides keys (suc i) fs) (suc i + k)) ≡ is_among keys (suc i + k)
        → not (is_among (if b then places_besides keys (suc i) fs else i ∷ places_besides keys (suc i) fs) (suc i + k)) ≡ is_among keys (suc i + k)
    there true r = r
    there false r = ap (λ (c : Bool). not (c || is_among (places_besides keys (suc i) fs) (suc i + k))) (other i (suc i + k) (omega arith)) ∙ r

-- each place of no key column is one of them
pub stored_wanted : (keys : List ℕ) (fs : Fields) (p : ℕ) → p < count fs → is_among keys p ≡ false → is_among (places_besides keys 0 fs) p ≡ true
stored_wanted keys fs p low kept =
    let e : 0 + p ≡ p = omega arith in
    let here : not (is_among (places_besides keys 0 fs) p) ≡ is_among keys p = subst (λ (n : ℕ). not (is_among (places_besides keys 0 fs) n) ≡ is_among keys n) e (each_place keys 0 p fs low) in
    by (is_among (places_besides keys 0 fs) p) (here ∙ kept)
  where
    by : (b : Bool) → not b ≡ false → b ≡ true
    by true e = refl
    by false e = sym e

same_besides : (f g : ℕ → Bool) (i : ℕ) (row : Row) → ((k : ℕ) → k < width row → f (i + k) ≡ g (i + k)) → values_besides f i row ≡ values_besides g i row
same_besides f g i no_values same = refl
same_besides f g i (item v vs) same =
    let here : f i ≡ g i = (let e : i ≡ i + 0 = omega arith in ap f e ∙ same 0 (omega arith) ∙ ap g (sym e)) in
    ap (λ (b : Bool). if b then values_besides f (suc i) vs else item v (values_besides f (suc i) vs)) here
    ∙ ap (λ (rest : Row). if g i then rest else item v rest) (same_besides f g (suc i) vs (λ k low. let e : suc i + k ≡ i + suc k = omega arith in ap f e ∙ same (suc k) (omega (arith, low)) ∙ ap g (sym e)))

-- cut to the columns that the files have, a row is without its keys
cut_besides : (keys : List KeyColumn) (fs : Fields) (row : Row) → fits_each fs row ≡ true → cut_to (places_besides (places_of keys) 0 fs) row ≡ row_without_keys keys row
cut_besides keys fs row fit =
    same_besides (λ i. not (is_among (places_besides (places_of keys) 0 fs) i)) (is_among (places_of keys)) 0 row
    (λ k low. let w = whole_width fs row fit in each_place (places_of keys) 0 k fs (omega (arith, low, w)))

pub cut_each : (keys : List KeyColumn) (fs : Fields) (rows : List Row) → RowsFit fs rows → map (cut_to (places_besides (places_of keys) 0 fs)) rows ≡ map (row_without_keys keys) rows
cut_each keys fs [] fit = refl
cut_each keys fs (row ∷ rows) fit =
    ap (λ (x : Row). x ∷ map (cut_to (places_besides (places_of keys) 0 fs)) rows) (cut_besides keys fs row fit.0) ∙ ap (λ (xs : List Row). row_without_keys keys row ∷ xs) (cut_each keys fs rows fit.1)

-- rows that fit the table fit its files without their keys
pub stored_each : (keys : List KeyColumn) (fs : Fields) (rows : List Row) → RowsFit fs rows → RowsFit (without_keys keys fs) (map (row_without_keys keys) rows)
stored_each keys fs [] fit = tt
stored_each keys fs (row ∷ rows) fit = (row_fits keys fs row fit.0, stored_each keys fs rows fit.1)
