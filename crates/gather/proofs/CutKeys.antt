-- The key of a row that fits, put together from its values.
use Rattle.std.proofs.Common.{◌≡◌, ℕ, zero, suc, ◌+◌, ◌<◌, Bool, true, false, List, [], ◌∷◌, length, Some, refl, ap, ap₂, sym, ◌∙◌, arith, eqb-true}
use Rattle.std.specs.Prelude.{nat_eq, ◌||◌, if◌then◌else◌, Option}
use Rattle.std.specs.List.{AllByRecursion}
use Rattle.std.proofs.lemmas.Bool.{false≢true, and_parts, eq-eqb}
use Rattle.schema.specs.declared.key.KeyKind.{KeyKind}
use Rattle.schema.specs.declared.key.KeyKind.TheVariants.{Boolean, Int32, Int64, Utf8}
use Rattle.schema.specs.Cutting.{is_among}
use Rattle.schema.specs.Values.{ValueTree, boolean, integer, bytes, ValueTrees, no_values, value, member_at}
use Rattle.schema.specs.Shape.{Field, Fields, no_fields, field}
use Rattle.schema.specs.Fits.{fits_kind, fits, fits_each}
use Rattle.schema.specs.Keys.{KeyColumn, stored_kind, key_field, field_at, places_of, AreDistinct, AreKeys, key_of_row, width}
use Rattle.gather.specs.Parts.{put_at}
use Rattle.gather.proofs.CutTokens.{IsSingle, AreSingle, put_each, put_none}

-- ---- values that key columns have

kind_single : (kind : KeyKind) (v : ValueTree) → fits_kind (stored_kind kind) v ≡ true → IsSingle v
kind_single Boolean (boolean b) h = record { kept = refl; token = refl }
kind_single Boolean _ h = absurd (false≢true h)
kind_single Int32 (integer z) h = record { kept = refl; token = refl }
kind_single Int32 _ h = absurd (false≢true h)
kind_single Int64 (integer z) h = record { kept = refl; token = refl }
kind_single Int64 _ h = absurd (false≢true h)
kind_single Utf8 (bytes s) h = record { kept = refl; token = refl }
kind_single Utf8 _ h = absurd (false≢true h)

field_single : (k : KeyColumn) (v : ValueTree) → fits (key_field k) v ≡ true → IsSingle v
field_single k v h = kind_single k.kind v (and_parts _ _ h).0

-- ---- the fields of key columns

-- there is a key column whose field this is
abbrev IsKeyField : Option Field → Type 0
IsKeyField f = (k : KeyColumn) × (f ≡ Some (key_field k))

among_keys : (fs : Fields) (columns : List KeyColumn) → AllByRecursion (λ (k : KeyColumn). field_at k.at fs ≡ Some (key_field k)) columns → (n : ℕ) → is_among (places_of columns) n ≡ true → IsKeyField (field_at n fs)
among_keys fs [] there n h = absurd (false≢true h)
among_keys fs (k ∷ columns) there n h = by (nat_eq k.at n) refl (among_keys fs columns there.1 n) h
  where
    by : (b : Bool) → nat_eq k.at n ≡ b → (is_among (places_of columns) n ≡ true → IsKeyField (field_at n fs)) → (b || is_among (places_of columns) n) ≡ true → IsKeyField (field_at n fs)
    by true e rest g = (k, ap (λ (m : ℕ). field_at m fs) (sym (eqb-true k.at n e)) ∙ there.0)
    by false e rest g = rest g

same_field : (f : Field) (k : KeyColumn) → Some f ≡ Some (key_field k) → f ≡ key_field k
same_field f k e = cc

singles : (places : List ℕ) (fs : Fields) (row : ValueTrees) (place : ℕ) → fits_each fs row ≡ true → ((n m : ℕ) → m ≡ place + n → is_among places m ≡ true → IsKeyField (field_at n fs)) → AreSingle places place row
singles places no_fields no_values place fit keyed = tt
singles places no_fields (value v vs) place fit keyed = absurd (false≢true fit)
singles places (field f fs) no_values place fit keyed = tt
singles places (field f fs) (value v vs) place fit keyed =
    let parts = and_parts (fits f v) (fits_each fs vs) fit in (
      λ here. let k = keyed 0 place (omega arith) here in field_single k.0 v (ap (λ (g : Field). fits g v) (sym (same_field f k.0 k.1)) ∙ parts.0),
      singles places fs vs (suc place) parts.1 (λ n m e here. keyed (suc n) m (omega (arith, e)) here),
    )

pub fits_single : (columns : List KeyColumn) (fs : Fields) (row : ValueTrees) → AreKeys columns fs → fits_each fs row ≡ true → AreSingle (places_of columns) 0 row
fits_single columns fs row keys fit =
    singles (places_of columns) fs row 0 fit (λ n m e here. among_keys fs columns keys.there n (ap (is_among (places_of columns)) (zero_more n m e) ∙ here))
  where
    zero_more : (n m : ℕ) → m ≡ 0 + n → n ≡ m
    zero_more n m e = omega (arith, e)

-- ---- the key

-- the value at a place of some values, the first of which has another place
abbrev put_one : ℕ → ℕ → ValueTrees → ValueTree → ValueTree
put_one at place no_values k = k
put_one at place (value v vs) k = put_one at (suc place) vs (if nat_eq at place then v else k)

put_first : (at : ℕ) (places : List ℕ) (place : ℕ) (v k : ValueTree) (key : List ValueTree) → is_among places at ≡ false
    → put_at (at ∷ places) place v (k ∷ key) ≡ (if nat_eq at place then v else k) ∷ put_at places place v key
put_first at places place v k key other = by (nat_eq at place) refl
  where
    by : (b : Bool) → nat_eq at place ≡ b → (if b then v ∷ key else k ∷ put_at places place v key) ≡ (if b then v else k) ∷ put_at places place v key
    by true e = ap (λ (ks : List ValueTree). v ∷ ks) (sym (put_none places place v key (ap (is_among places) (sym (eqb-true at place e)) ∙ other)))
    by false e = refl

put_split : (at : ℕ) (places : List ℕ) (vs : ValueTrees) (place : ℕ) (k : ValueTree) (key : List ValueTree) → is_among places at ≡ false
    → put_each (at ∷ places) place vs (k ∷ key) ≡ put_one at place vs k ∷ put_each places place vs key
put_split at places no_values place k key other = refl
put_split at places (value v vs) place k key other =
    ap (put_each (at ∷ places) (suc place) vs) (put_first at places place v k key other)
    ∙ put_split at places vs (suc place) (if nat_eq at place then v else k) (put_at places place v key) other

past : (at : ℕ) (vs : ValueTrees) (place : ℕ) (k : ValueTree) → at < place → put_one at place vs k ≡ k
past at no_values place k h = refl
past at (value v vs) place k h = by (nat_eq at place) refl (past at vs (suc place) k (omega (arith, h)))
  where
    by : (b : Bool) → nat_eq at place ≡ b → put_one at (suc place) vs k ≡ k → put_one at (suc place) vs (if b then v else k) ≡ k
    by true e rest = let same = eqb-true at place e in absurd (omega (arith, h, same))
    by false e rest = rest

put_one_is : (n at : ℕ) (vs : ValueTrees) (place : ℕ) (k : ValueTree) → at ≡ place + n → n < width vs → put_one at place vs k ≡ member_at n vs
put_one_is n at no_values place k e h = absurd (omega (arith, h))
put_one_is zero at (value v vs) place k e h =
    let here : at ≡ place = omega (arith, e) in
    ap (λ (b : Bool). put_one at (suc place) vs (if b then v else k)) (ap (λ (m : ℕ). nat_eq at m) (sym here) ∙ eq-eqb at at refl) ∙ past at vs (suc place) v (omega (arith, here))
put_one_is (suc n) at (value v vs) place k e h = put_one_is n at vs (suc place) (if nat_eq at place then v else k) (omega (arith, e)) (omega (arith, h))

within : (at : ℕ) (fs : Fields) (row : ValueTrees) (f : Field) → field_at at fs ≡ Some f → fits_each fs row ≡ true → at < width row
within at no_fields row f e fit = cc
within zero (field g fs) no_values f e fit = absurd (false≢true fit)
within zero (field g fs) (value v vs) f e fit = omega arith
within (suc at) (field g fs) no_values f e fit = absurd (false≢true fit)
within (suc at) (field g fs) (value v vs) f e fit = let less = within at fs vs f e (and_parts (fits g v) (fits_each fs vs) fit).1 in omega (arith, less)

put_keys : (columns : List KeyColumn) (fs : Fields) (row : ValueTrees) (key : List ValueTree) → length key ≡ length columns → AreDistinct (places_of columns)
    → AllByRecursion (λ (k : KeyColumn). field_at k.at fs ≡ Some (key_field k)) columns → fits_each fs row ≡ true → put_each (places_of columns) 0 row key ≡ key_of_row columns row
put_keys [] fs row [] long distinct there fit = put_nothing row 0
  where
    put_nothing : (vs : ValueTrees) (place : ℕ) → put_each [] place vs [] ≡ []
    put_nothing no_values place = refl
    put_nothing (value v vs) place = put_nothing vs (suc place)
put_keys [] fs row (k ∷ key) long distinct there fit = absurd (omega (arith, long))
put_keys (c ∷ columns) fs row [] long distinct there fit = absurd (omega (arith, long))
put_keys (c ∷ columns) fs row (k ∷ key) long distinct there fit =
    put_split c.at (places_of columns) row 0 k key distinct.0
    ∙ ap₂ (λ (v : ValueTree) (vs : List ValueTree). v ∷ vs) (put_one_is c.at c.at row 0 k (omega arith) (within c.at fs row (key_field c) there.0 fit))
    (put_keys columns fs row key (omega (arith, long)) distinct.1 there.1 fit)

pub key_put : (columns : List KeyColumn) (fs : Fields) (row : ValueTrees) (key : List ValueTree) → length key ≡ length columns → AreKeys columns fs → fits_each fs row ≡ true
    → put_each (places_of columns) 0 row key ≡ key_of_row columns row
key_put columns fs row key long keys fit = put_keys columns fs row key long keys.distinct keys.there fit
