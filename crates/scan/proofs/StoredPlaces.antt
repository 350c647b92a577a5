-- The first fields of a table, and padded rows, at places.
use Rattle.std.proofs.Common.{◌≡◌, ◌≤◌, ◌<◌, ◌+◌, ℕ, zero, suc, Bool, true, false, length, Some, refl, ap, arith}
use Rattle.std.specs.Prelude.{cond}
use Rattle.std.proofs.lemmas.Bool.{and_parts, false≢true}
use Rattle.schema.specs.Values.{ValueTrees, null, no_values, value as item, member_at}
use Rattle.schema.specs.Shape.{Field, Fields, no_fields, field}
use Rattle.schema.specs.Fits.{fits, fits_each}
use Rattle.schema.specs.Stripe.{leaves}
use Rattle.schema.specs.Keys.{field_at}
use Rattle.schema.proofs.LeafPlaces.{moved, count_gone, leaves_before}
use Rattle.schema.specs.Fronts.{first_fields, padded}

-- ---- the first fields

pub first_at : (n p : ℕ) (fs : Fields) (f : Field) → p < n → field_at p fs ≡ Some f → field_at p (first_fields n fs) ≡ Some f
first_at zero p fs f lt h = absurd (omega (arith, lt))
first_at (suc n) p no_fields f lt h = h
first_at (suc n) zero (field g gs) f lt h = h
first_at (suc n) (suc p) (field g gs) f lt h = first_at n p gs f (omega (arith, lt)) h

pub before_first : (n p : ℕ) (fs : Fields) → p ≤ n → leaves_before p (first_fields n fs) ≡ leaves_before p fs
before_first zero zero fs le = refl
before_first zero (suc p) fs le = absurd (omega (arith, le))
before_first (suc n) zero fs le = refl
before_first (suc n) (suc p) no_fields le = refl
before_first (suc n) (suc p) (field g gs) le = ap (λ (k : ℕ). length (leaves g) + k) (before_first n p gs (omega (arith, le)))

-- ---- padded rows

pub padded_at : (fs : Fields) (row : ValueTrees) (p n : ℕ) → p < n → fits_each (first_fields n fs) row ≡ true → member_at p (padded fs row) ≡ member_at p row
padded_at fs row p zero lt fit = absurd (omega (arith, lt))
padded_at no_fields row p (suc n) lt fit = refl
padded_at (field f fs) no_values p (suc n) lt fit = absurd (false≢true fit)
padded_at (field f fs) (item v vs) zero (suc n) lt fit = refl
padded_at (field f fs) (item v vs) (suc p) (suc n) lt fit = padded_at fs vs p n (omega (arith, lt)) (and_parts (fits f v) (fits_each (first_fields n fs) vs) fit).1

member_none : (p : ℕ) → member_at p no_values ≡ null
member_none zero = refl
member_none (suc p) = refl

null_padded : (fs : Fields) (p : ℕ) → member_at p (padded fs no_values) ≡ null
null_padded no_fields p = member_none p
null_padded (field f fs) zero = refl
null_padded (field f fs) (suc p) = null_padded fs p

pub null_at : (fs : Fields) (row : ValueTrees) (p n : ℕ) → n ≤ p → fits_each (first_fields n fs) row ≡ true → member_at p (padded fs row) ≡ null
null_at fs no_values p zero le fit = null_padded fs p
null_at fs (item v vs) p zero le fit = absurd (false≢true fit)
null_at no_fields no_values p (suc n) le fit = member_none p
null_at no_fields (item v vs) p (suc n) le fit = absurd (false≢true fit)
null_at (field f fs) no_values p (suc n) le fit = absurd (false≢true fit)
null_at (field f fs) (item v vs) zero (suc n) le fit = absurd (omega (arith, le))
null_at (field f fs) (item v vs) (suc p) (suc n) le fit = null_at fs vs p n (omega (arith, le)) (and_parts (fits f v) (fits_each (first_fields n fs) vs) fit).1

-- ---- where a place comes to stand

pub moved_is : (gone : ℕ → Bool) (i p : ℕ) → moved gone i p + count_gone gone i p ≡ p
moved_is gone i zero = refl
moved_is gone i (suc p) = by (gone i) (moved_is gone (suc i) p)
  where
    by : (b : Bool) → moved gone (suc i) p + count_gone gone (suc i) p ≡ p → cond b (moved gone (suc i) p) (suc (moved gone (suc i) p)) + (cond b 1 0 + count_gone gone (suc i) p) ≡ suc p
    by true h = omega (arith, h)
    by false h = omega (arith, h)
