-- Rows with and without their keys.
use Rattle.std.proofs.Common.{◌≡◌, ℕ, suc, ◌+◌, Bool, true, false, ◌&&◌, refl, ap, sym, subst, ◌∙◌, arith, add-zero}
use Rattle.std.specs.Prelude.{cond, IsTrue}
use Rattle.std.proofs.lemmas.Bool.{false≢true, and_parts}
use Rattle.schema.specs.Values.{no_values, value as item}
use Rattle.schema.specs.Shape.{no_fields, field}
use Rattle.schema.specs.Fits.{fits, fits_each}
use Rattle.schema.specs.Keys.{fields_besides, values_besides, width, BesidesFit, RowsAreOne}

pub besides_fit : BesidesFit
besides_fit gone i no_fields no_values h = refl
besides_fit gone i no_fields (item v vs) h = absurd (false≢true h)
besides_fit gone i (field f fs) no_values h = absurd (false≢true h)
besides_fit gone i (field f fs) (item v vs) h =
    let parts = and_parts (fits f v) (fits_each fs vs) h in
    kept (gone i) (besides_fit gone (suc i) fs vs parts.1) parts.0
  where
    kept : (b : Bool) → IsTrue (fits_each (fields_besides gone (suc i) fs) (values_besides gone (suc i) vs)) → fits f v ≡ true
        → IsTrue (fits_each (cond b (fields_besides gone (suc i) fs) (field f (fields_besides gone (suc i) fs))) (cond b (values_besides gone (suc i) vs) (item v (values_besides gone (suc i) vs))))
    kept true rest first = rest
    kept false rest first = ap (λ (b : Bool). b && fits_each (fields_besides gone (suc i) fs) (values_besides gone (suc i) vs)) first ∙ rest

pub rows_are_one : RowsAreOne
rows_are_one gone i no_values no_values w b k = refl
rows_are_one gone i no_values (item y ys) w b k = absurd (omega (arith, w))
rows_are_one gone i (item x xs) no_values w b k = absurd (omega (arith, w))
rows_are_one gone i (item x xs) (item y ys) w b k =
    let wide : width xs ≡ width ys = omega (arith, w) in
    let later = λ (place : ℕ) (h : IsTrue (gone (suc i + place))). k (suc place) (subst (λ (n : ℕ). IsTrue (gone n)) (omega arith) h) in
    either (gone i) refl b (λ (same : values_besides gone (suc i) xs ≡ values_besides gone (suc i) ys). rows_are_one gone (suc i) xs ys wide same later)
  where
    either : (g : Bool) → gone i ≡ g → cond g (values_besides gone (suc i) xs) (item x (values_besides gone (suc i) xs)) ≡ cond g (values_besides gone (suc i) ys) (item y (values_besides gone (suc i) ys))
        → (values_besides gone (suc i) xs ≡ values_besides gone (suc i) ys → xs ≡ ys) → item x xs ≡ item y ys
    either true e same rest =
        let first : x ≡ y = k 0 (subst (λ (n : ℕ). IsTrue (gone n)) (sym (add-zero i)) e) in
        let others : xs ≡ ys = rest same in
        cc
    either false e same rest =
        let first : x ≡ y = cc in
        let more : values_besides gone (suc i) xs ≡ values_besides gone (suc i) ys = cc in
        let others : xs ≡ ys = rest more in
        cc
