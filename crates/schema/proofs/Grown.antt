-- A further field at the end.
use Rattle.std.proofs.Common.{◌≡◌, ℕ, zero, suc, ◌+◌, ◌<◌, ◌≤◌, Bool, true, false, ◌||◌, nat_eq, List, [], ◌∷◌, length, Some, refl, ap, sym, subst, ◌∙◌, arith, add-zero, eqb-true}
use Rattle.std.specs.Prelude.{cond, count_by, nat_lt}
use Rattle.std.specs.List.{AllByRecursion}
use Rattle.std.proofs.lemmas.Bool.{false≢true, and_parts, and_from as and_true}
use Rattle.std.proofs.lemmas.Bool.Decides.{nat_tests}
use Rattle.std.proofs.lemmas.List.Sums.{sum_by-cons}
use Rattle.schema.specs.declared.value.Repetition.TheVariants.{Optional}
use Rattle.schema.specs.Values.{ValueTree, null, ValueTrees, no_values, value as item, member_at}
use Rattle.schema.specs.Shape.{Field, Fields, no_fields, field, count, repetition_of}
use Rattle.schema.specs.Fits.{fits, fits_each}
use Rattle.schema.specs.Cutting.{is_among}
use Rattle.schema.specs.Keys.{KeyColumn, AreKeys, places_of, field_at, key_field, fields_besides, values_besides, without_keys, key_of_row, width, IsRowOf}
use Rattle.schema.proofs.LeafPlaces.{one_if, count_gone, count_places}
use Rattle.schema.specs.Fronts.{first_fields, fields_after, AreOptional, IsFront, padded, with_field, with_null}
use Rattle.schema.specs.Growing.{GrownRowsFit, FrontsStay, KeysStay}
use Rattle.schema.proofs.Padding.{null_fits}

pub first_stay : (n : ℕ) (fs : Fields) (f : Field) → n ≤ count fs → first_fields n (with_field fs f) ≡ first_fields n fs
first_stay zero fs f h = refl
first_stay (suc n) no_fields f h = absurd (omega (arith, h))
first_stay (suc n) (field g fs) f h = ap (field g) (first_stay n fs f (omega (arith, h)))

after_grows : (n : ℕ) (fs : Fields) (f : Field) → n ≤ count fs → fields_after n (with_field fs f) ≡ with_field (fields_after n fs) f
after_grows zero fs f h = refl
after_grows (suc n) no_fields f h = absurd (omega (arith, h))
after_grows (suc n) (field g fs) f h = after_grows n fs f (omega (arith, h))

optional_grows : (fs : Fields) (f : Field) → AreOptional fs → repetition_of f ≡ Optional → AreOptional (with_field fs f)
optional_grows no_fields f h o = (o, tt)
optional_grows (field g fs) f h o = (h.0, optional_grows fs f h.1 o)

pub count_grows : (fs : Fields) (f : Field) → count (with_field fs f) ≡ suc (count fs)
count_grows no_fields f = refl
count_grows (field g fs) f = ap suc (count_grows fs f)

-- what was a front stays one
pub front_stays : (n : ℕ) (fs : Fields) (f : Field) → IsFront n fs → repetition_of f ≡ Optional → IsFront n (with_field fs f)
front_stays n fs f h o = record {
  some = h.some;
  there = omega (arith, h.there, count_grows fs f);
  optional = subst AreOptional (sym (after_grows n fs f h.there)) (optional_grows (fields_after n fs) f h.optional o);
}

-- ---- rows

pub padded_grows : (fs : Fields) (f : Field) (row : ValueTrees) → width row ≤ count fs → padded (with_field fs f) row ≡ with_null (padded fs row)
padded_grows no_fields f no_values h = refl
padded_grows no_fields f (item v vs) h = absurd (omega (arith, h))
padded_grows (field g fs) f no_values h = ap (item null) (padded_grows fs f no_values (omega arith))
padded_grows (field g fs) f (item v vs) h = ap (item v) (padded_grows fs f vs (omega (arith, h)))

pub padded_width : (fs : Fields) (row : ValueTrees) → width row ≤ count fs → width (padded fs row) ≡ count fs
padded_width no_fields no_values h = refl
padded_width no_fields (item v vs) h = absurd (omega (arith, h))
padded_width (field g fs) no_values h = ap suc (padded_width fs no_values (omega arith))
padded_width (field g fs) (item v vs) h = ap suc (padded_width fs vs (omega (arith, h)))

pub fitting_width : (n : ℕ) (fs : Fields) (row : ValueTrees) → fits_each (first_fields n fs) row ≡ true → width row ≤ count fs
fitting_width n fs no_values r = omega arith
fitting_width zero fs (item v vs) r = absurd (false≢true r)
fitting_width (suc n) no_fields (item v vs) r = absurd (false≢true r)
fitting_width (suc n) (field f fs) (item v vs) r = omega (arith, fitting_width n fs vs (and_parts (fits f v) (fits_each (first_fields n fs) vs) r).1)

null_width : (row : ValueTrees) → width (with_null row) ≡ suc (width row)
null_width no_values = refl
null_width (item v vs) = ap suc (null_width vs)

member_stays : (p : ℕ) (row : ValueTrees) → member_at p (with_null row) ≡ member_at p row
member_stays zero no_values = refl
member_stays (suc p) no_values = refl
member_stays zero (item v vs) = refl
member_stays (suc p) (item v vs) = member_stays p vs

-- ---- with and without keys

fields_grow : (gone : ℕ → Bool) (i : ℕ) (fs : Fields) (f : Field) → gone (i + count fs) ≡ false → fields_besides gone i (with_field fs f) ≡ with_field (fields_besides gone i fs) f
fields_grow gone i no_fields f h = ap (λ (b : Bool). cond b no_fields (field f no_fields)) (ap gone (sym (add-zero i)) ∙ h)
fields_grow gone i (field g fs) f h = by (gone i) (fields_grow gone (suc i) fs f (subst (λ (n : ℕ). gone n ≡ false) (omega arith) h))
  where
    by : (b : Bool) → fields_besides gone (suc i) (with_field fs f) ≡ with_field (fields_besides gone (suc i) fs) f
        → cond b (fields_besides gone (suc i) (with_field fs f)) (field g (fields_besides gone (suc i) (with_field fs f))) ≡ with_field (cond b (fields_besides gone (suc i) fs) (field g (fields_besides gone (suc i) fs))) f
    by true e = e
    by false e = ap (field g) e

values_grow : (gone : ℕ → Bool) (i : ℕ) (row : ValueTrees) → gone (i + width row) ≡ false → values_besides gone i (with_null row) ≡ with_null (values_besides gone i row)
values_grow gone i no_values h = ap (λ (b : Bool). cond b no_values (item null no_values)) (ap gone (sym (add-zero i)) ∙ h)
values_grow gone i (item v vs) h = by (gone i) (values_grow gone (suc i) vs (subst (λ (n : ℕ). gone n ≡ false) (omega arith) h))
  where
    by : (b : Bool) → values_besides gone (suc i) (with_null vs) ≡ with_null (values_besides gone (suc i) vs)
        → cond b (values_besides gone (suc i) (with_null vs)) (item v (values_besides gone (suc i) (with_null vs))) ≡ with_null (cond b (values_besides gone (suc i) vs) (item v (values_besides gone (suc i) vs)))
    by true e = e
    by false e = ap (item v) e

place_there : (p : ℕ) (fs : Fields) (f : Field) → field_at p fs ≡ Some f → p < count fs
place_there zero no_fields f h = cc
place_there (suc p) no_fields f h = cc
place_there zero (field g fs) f h = omega arith
place_there (suc p) (field g fs) f h = omega (arith, place_there p fs f h)

abbrev ThereAre : List KeyColumn → Fields → Type 0
ThereAre keys fs = AllByRecursion (λ (k : KeyColumn). field_at k.at fs ≡ Some (key_field k)) keys

-- no key is in a place past the fields
no_key_past : (keys : List KeyColumn) (fs : Fields) (p : ℕ) → ThereAre keys fs → count fs ≤ p → is_among (places_of keys) p ≡ false
no_key_past [] fs p h past = refl
no_key_past (k ∷ keys) fs p h past = by (nat_eq k.at p) refl (no_key_past keys fs p h.1 past)
  where
    by : (b : Bool) → nat_eq k.at p ≡ b → is_among (places_of keys) p ≡ false → (b || is_among (places_of keys) p) ≡ false
    by true e rest = absurd (omega (arith, eqb-true k.at p e, place_there k.at fs (key_field k) h.0, past))
    by false e rest = rest

below_one : (a n : ℕ) → a < n → one_if (nat_lt a n) ≡ 1
below_one a n h = grind (arith, nat_tests)

all_below : (keys : List KeyColumn) (fs : Fields) → ThereAre keys fs → count_by (λ a. nat_lt a (count fs)) (places_of keys) ≡ length keys
all_below [] fs h = refl
all_below (k ∷ keys) fs h =
    let first = below_one k.at (count fs) (place_there k.at fs (key_field k) h.0) in
    omega (arith, sum_by-cons (λ (b : ℕ). one_if (nat_lt b (count fs))) k.at (places_of keys), first, all_below keys fs h.1)

count_besides : (gone : ℕ → Bool) (i : ℕ) (fs : Fields) → count (fields_besides gone i fs) + count_gone gone i (count fs) ≡ count fs
count_besides gone i no_fields = refl
count_besides gone i (field f fs) = by (gone i) (count_besides gone (suc i) fs)
  where
    by : (b : Bool) → count (fields_besides gone (suc i) fs) + count_gone gone (suc i) (count fs) ≡ count fs
        → count (cond b (fields_besides gone (suc i) fs) (field f (fields_besides gone (suc i) fs))) + (one_if b + count_gone gone (suc i) (count fs)) ≡ suc (count fs)
    by true e = omega (arith, e)
    by false e = omega (arith, e)

-- the keys and the other fields are all
pub keys_and_others : (keys : List KeyColumn) (fs : Fields) → AreKeys keys fs → count (without_keys keys fs) + length keys ≡ count fs
keys_and_others keys fs k = omega (arith, count_besides (is_among (places_of keys)) 0 fs, count_places (places_of keys) k.distinct (count fs), all_below keys fs k.there)

pub without_keys_grows : (keys : List KeyColumn) (fs : Fields) (f : Field) → AreKeys keys fs → without_keys keys (with_field fs f) ≡ with_field (without_keys keys fs) f
without_keys_grows keys fs f k = fields_grow (is_among (places_of keys)) 0 fs f (no_key_past keys fs (0 + count fs) k.there (omega arith))

key_stays : (keys : List KeyColumn) (row : ValueTrees) → key_of_row keys (with_null row) ≡ key_of_row keys row
key_stays [] row = refl
key_stays (k ∷ keys) row = λ i. member_stays k.at row i ∷ key_stays keys row i

pub row_grows : (keys : List KeyColumn) (fs : Fields) (key : List ValueTree) (stored row : ValueTrees) → AreKeys keys fs → width stored ≡ count (without_keys keys fs)
    → IsRowOf keys key stored row → IsRowOf keys key (with_null stored) (with_null row)
row_grows keys fs key stored row k wide h =
    let whole : width row ≡ count fs = omega (arith, h.whole, wide, keys_and_others keys fs k) in
    record {
      besides = values_grow (is_among (places_of keys)) 0 row (no_key_past keys fs (0 + width row) k.there (omega (arith, whole))) ∙ ap with_null h.besides;
      keyed = key_stays keys row ∙ h.keyed;
      whole = omega (arith, h.whole, null_width row, null_width stored);
    }

-- ---- the laws

field_stays_at : (i : ℕ) (fs : Fields) (f g : Field) → field_at i fs ≡ Some g → field_at i (with_field fs f) ≡ Some g
field_stays_at zero no_fields f g e = cc
field_stays_at (suc i) no_fields f g e = cc
field_stays_at zero (field h fs) f g e = e
field_stays_at (suc i) (field h fs) f g e = field_stays_at i fs f g e

there_stay : (fs : Fields) (f : Field) (keys : List KeyColumn) → ThereAre keys fs → ThereAre keys (with_field fs f)
there_stay fs f [] h = tt
there_stay fs f (k ∷ keys) h = (field_stays_at k.at fs f (key_field k) h.0, there_stay fs f keys h.1)

pub keys_grow : (keys : List KeyColumn) (fs : Fields) (f : Field) → AreKeys keys fs → AreKeys keys (with_field fs f)
keys_grow keys fs f h = record {
  few = h.few;
  rest = omega (arith, count_grows fs f, h.rest);
  distinct = h.distinct;
  named = h.named;
  there = there_stay fs f keys h.there;
}

pub grown_rows_fit : GrownRowsFit
grown_rows_fit no_fields f no_values o h = and_true (fits f null) true (null_fits f o) refl
grown_rows_fit no_fields f (item v vs) o h = absurd (false≢true h)
grown_rows_fit (field g fs) f no_values o h = absurd (false≢true h)
grown_rows_fit (field g fs) f (item v vs) o h =
    let parts = and_parts (fits g v) (fits_each fs vs) h in
    and_true (fits g v) (fits_each (with_field fs f) (with_null vs)) parts.0 (grown_rows_fit fs f vs o parts.1)

pub fronts_stay : FrontsStay
fronts_stay n fs f h o = (front_stays n fs f h o, first_stay n fs f h.there)

pub keys_stay : KeysStay
keys_stay keys fs f h = record { are_keys = keys_grow keys fs f h; besides = without_keys_grows keys fs f h; keyed = λ row. key_stays keys row }
