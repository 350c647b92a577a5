-- The first row of a flat schema, whose values are taken off the columns one by one.
use Rattle.std.proofs.Common.{◌≡◌, ℕ, zero, suc, ◌+◌, ◌<◌, true, List, [], ◌∷◌, ◌++◌, map, length, get_or, Option, Some, refl, sym, ap, subst, ◌∙◌, arith}
use Rattle.std.specs.Prelude.{option_map}
use Rattle.std.proofs.lemmas.Bool.{false≢true, and_parts as both_true}
use Rattle.std.proofs.lemmas.List.{length-append, length-map}
use Rattle.std.proofs.Math.ListN.{set}
use Rattle.bits.specs.declared.fault.Fault.{Fault}
use Rattle.bits.specs.declared.fault.Fault.TheVariants as fault
use Rattle.schema.specs.declared.value.Kind.{Kind}
use Rattle.schema.specs.declared.value.Kind.TheVariants.{Boolean, Int32, Int64, ByteArray, FixedLenByteArray}
use Rattle.schema.specs.declared.value.Repetition.TheVariants.{Required, Optional, Repeated}
use Rattle.schema.specs.declared.borrowed.EntryRef.{EntryRef}
use Rattle.schema.specs.declared.borrowed.ValueRef.{ValueRef}
use Rattle.schema.specs.Annotations.{LeafType}
use Rattle.schema.specs.Borrowed.{value_ref_view, entry_ref_view}
use Rattle.schema.specs.Values.{ValueTree, null, boolean, integer, bytes, group, list, ValueTrees, no_values, value as item, member_at}
use Rattle.schema.specs.Shape.{leaf, fields, Fields, no_fields, field}
use Rattle.schema.specs.Fits.{fits_kind, fits_leaf, fits_each}
use Rattle.schema.specs.Stripe.{Leaf, Entry, leaves_from, leaves_of, column, columns}
use Rattle.assemble.specs.Sources.{Stands, Precede}
use Rattle.assemble.specs.Sinks.{Token, single, Adds, Visits, tokens, tokens_each}
use Rattle.assemble.specs.Columns.{Columns, Fronts}
use Rattle.assemble.specs.Standing.{AllStand, Onward}
use Rattle.assemble.specs.RowsOf.{StandForRows}
use Rattle.assemble.specs.Flat.{is_flat, ShowsFirst}
use Rattle.assemble.specs.inner.Steps.{BeginsWithValue}
use Rattle.assemble.proofs.Standing.{At, set_on, stand_get, stand_length}
use Rattle.assemble.proofs.Showing.{adds_then, adds_none}
use Rattle.assemble.proofs.FlatRows.{of_value, at, columns_from}

-- ---- a value off each of the first columns

-- what a value gives to its column
abbrev pub front_of : ValueTree → List Entry
front_of v = of_value v ∷ []

abbrev entry_of : ℕ → ℕ → Option ValueRef → Entry
entry_of r d o = record { repetition = r; definition = d; value = option_map value_ref_view o }

-- an entry with both levels 0 and a value
pub taken_first : (e : EntryRef) (v : ValueRef) (S T : Stands) → e.repetition ≡ 0 → e.definition ≡ 0 → e.value ≡ Some v → Precede (entry_ref_view e ∷ []) S T → Precede (front_of (value_ref_view v)) S T
taken_first e v S T r d is h =
    subst (λ (x : Entry). Precede (x ∷ []) S T) (ap (λ (n : ℕ). entry_of n e.definition e.value) r ∙ ap (λ (n : ℕ). entry_of 0 n e.value) d ∙ ap (λ (o : Option ValueRef). entry_of 0 0 o) is) h

front_more : (vs : List ValueTree) (i : ℕ) (v : ValueTree) (old now new : Columns) → length vs ≡ i → Fronts (map front_of vs) old now → At i (front_of v) now new → Fronts (map front_of (vs ++ v ∷ [])) old new
front_more [] zero v old [] new size h a = absurd a
front_more [] zero v old (n ∷ now) [] size h a = absurd a
front_more [] zero v old (n ∷ now) (m ∷ new) size h a = subst (λ (o : Columns). Fronts (front_of v ∷ []) o (m ∷ new)) (sym h) (a.0, a.1)
front_more [] (suc i) v old now new size h a = absurd (omega (arith, size))
front_more (u ∷ vs) zero v old now new size h a = absurd (omega (arith, size))
front_more (u ∷ vs) (suc i) v [] now new size h a = absurd h
front_more (u ∷ vs) (suc i) v (o ∷ old) [] new size h a = absurd h
front_more (u ∷ vs) (suc i) v (o ∷ old) (n ∷ now) [] size h a = absurd a
front_more (u ∷ vs) (suc i) v (o ∷ old) (n ∷ now) (m ∷ new) size h a = (h.0 ∙ ap (λ (t : List Entry). front_of u ++ t) a.0, front_more vs i v old now new (omega (arith, size)) h.1 a.1)

-- the column after them is as it was
untouched : (vs : List ValueTree) (i : ℕ) (old now : Columns) → length vs ≡ i → Fronts (map front_of vs) old now → get_or old i [] ≡ get_or now i []
untouched [] i old now size h = ap (λ (cs : Columns). get_or cs i []) h
untouched (u ∷ vs) zero old now size h = absurd (omega (arith, size))
untouched (u ∷ vs) (suc i) [] now size h = absurd h
untouched (u ∷ vs) (suc i) (o ∷ old) [] size h = absurd h
untouched (u ∷ vs) (suc i) (o ∷ old) (n ∷ now) size h = untouched vs i old now (omega (arith, size)) h.1

singles_more : (vs : List ValueTree) (v : ValueTree) → map single (vs ++ v ∷ []) ≡ map single vs ++ single v ∷ []
singles_more [] v = refl
singles_more (u ∷ vs) v = ap (λ (ts : List Token). single u ∷ ts) (singles_more vs v)

-- ---- rows of a flat schema

begins_each : (k : ℕ) (fs : Fields) (row : ValueTrees) (rows : List ValueTrees) (i : ℕ) → is_flat fs ≡ true → i < length (columns_from k fs (row ∷ rows)) → BeginsWithValue (get_or (columns_from k fs (row ∷ rows)) i [])
begins_each k no_fields row rows i flat lt = absurd (omega (arith, lt))
begins_each k (field (leaf n Required t) fs) row rows zero flat lt = (refl, (refl, tt))
begins_each k (field (leaf n Required t) fs) row rows (suc i) flat lt = begins_each (suc k) fs row rows i flat (omega (arith, lt))
begins_each k (field (leaf n Optional t) fs) row rows i flat lt = absurd (false≢true flat)
begins_each k (field (leaf n Repeated t) fs) row rows i flat lt = absurd (false≢true flat)
begins_each k (field (fields n r a gs) fs) row rows i flat lt = absurd (false≢true flat)

no_group : (k : Kind) (vs : ValueTrees) → fits_kind k (group vs) ≡ true → ⊥
no_group Boolean vs h = false≢true h
no_group Int32 vs h = false≢true h
no_group Int64 vs h = false≢true h
no_group ByteArray vs h = false≢true h
no_group (FixedLenByteArray n) vs h = false≢true h

no_list : (k : Kind) (vs : ValueTrees) → fits_kind k (list vs) ≡ true → ⊥
no_list Boolean vs h = false≢true h
no_list Int32 vs h = false≢true h
no_list Int64 vs h = false≢true h
no_list ByteArray vs h = false≢true h
no_list (FixedLenByteArray n) vs h = false≢true h

-- a value of a leaf is one token
one_token : (t : LeafType) (v : ValueTree) → fits_leaf t v ≡ true → tokens v ≡ single v ∷ []
one_token t null h = refl
one_token t (boolean b) h = refl
one_token t (integer z) h = refl
one_token t (bytes s) h = refl
one_token t (group vs) h = absurd (no_group t.kind vs (both_true _ _ h).0)
one_token t (list vs) h = absurd (no_list t.kind vs (both_true _ _ h).0)

-- a column that begins with a value, by two accounts
same_value : (u v : ValueTree) (c d : List Entry) → front_of v ++ c ≡ front_of u ++ d → (u ≡ v) × (d ≡ c)
same_value u v c d h =
    let first : of_value v ≡ of_value u = cc in
    let values : Some v ≡ Some u = ap (λ (e : Entry). e.value) first in
    let value : v ≡ u = cc in
    let later : c ≡ d = cc in
    (sym value, sym later)

-- the values that were taken are those of the first row, whose first fields were taken before
row_from : (k : ℕ) (fs : Fields) (row later : ValueTrees) (rest : List ValueTrees) (vs : List ValueTree) (now : Columns) → is_flat fs ≡ true → ((j : ℕ) → member_at (j + k) row ≡ member_at j later) → fits_each fs later ≡ true
    → length vs ≡ length (leaves_from k fs) → Fronts (map front_of vs) (columns_from k fs (row ∷ rest)) now → (now ≡ columns_from k fs rest) × (map single vs ≡ tokens_each later)
row_from k no_fields row no_values rest [] now flat same fit size h = (sym h, refl)
row_from k no_fields row no_values rest (u ∷ vs) now flat same fit size h = absurd (omega (arith, size))
row_from k no_fields row (item v later) rest vs now flat same fit size h = absurd (false≢true fit)
row_from k (field (leaf n Required t) fs) row no_values rest vs now flat same fit size h = absurd (false≢true fit)
row_from k (field (leaf n Required t) fs) row (item v later) rest [] now flat same fit size h = absurd (omega (arith, size))
row_from k (field (leaf n Required t) fs) row (item v later) rest (u ∷ vs) [] flat same fit size h = absurd h
row_from k (field (leaf n Required t) fs) row (item v later) rest (u ∷ vs) (c ∷ now) flat same fit size h =
    let fits = both_true (fits_leaf t v) (fits_each fs later) fit in
    let first = same_value u (member_at k row) (column rest (at k)) c h.0 in
    let here : k ≡ 0 + k = omega arith in
    let is : u ≡ v = first.0 ∙ ap (λ (i : ℕ). member_at i row) here ∙ same 0 in
    let next : (j : ℕ) → member_at (j + suc k) row ≡ member_at j later = λ j. let e : j + suc k ≡ suc j + k = omega arith in ap (λ (i : ℕ). member_at i row) e ∙ same (suc j) in
    let others = row_from (suc k) fs row later rest vs now flat next fits.1 (omega (arith, size)) h.1 in (
      ap (λ (x : List Entry). x ∷ now) first.1 ∙ ap (λ (xs : Columns). column rest (at k) ∷ xs) others.0,
      ap (λ (x : ValueTree). single x ∷ map single vs) is ∙ ap (λ (ts : List Token). single v ∷ ts) others.1 ∙ sym (ap (λ (ts : List Token). ts ++ tokens_each later) (one_token t v fits.0)),
    )
row_from k (field (leaf n Optional t) fs) row later rest vs now flat same fit size h = absurd (false≢true flat)
row_from k (field (leaf n Repeated t) fs) row later rest vs now flat same fit size h = absurd (false≢true flat)
row_from k (field (fields n r a gs) fs) row later rest vs now flat same fit size h = absurd (false≢true flat)

no_index : (row : ValueTrees) (j : ℕ) → member_at (j + 0) row ≡ member_at j row
no_index row j = let e : j + 0 ≡ j = omega arith in ap (λ (i : ℕ). member_at i row) e

-- ---- sources

module _ {A : Type 0} (S : A → List Entry → Type 0) where
  -- each of the first i sources gave a value, which was shown
  abbrev pub Shown : ℕ → List A → List A → (List Token → Type 0) → (List Token → Type 0) → Type 0
  Shown i old new from to = (vs : List ValueTree) × ((length vs ≡ i) × (Onward S old new (Fronts (map front_of vs)) × Adds from to (map single vs)))

  pub shown_none : (xs : List A) (from : List Token → Type 0) → Shown 0 xs xs from from
  shown_none xs from = ([], (refl, ((λ cs s. (cs, (s, refl))), adds_none from)))

  pub shown_more : (i : ℕ) (old xs : List A) (x y : A) (from mid to : List Token → Type 0) → i < length xs → Shown i old xs from mid → Visits mid to (λ (v : ValueTree). single v ∷ []) (λ v. Precede (front_of v) (S (get_or xs i x)) (S y)) → Shown (i + 1) old (set xs i y) from to
  shown_more i old xs x y from mid to lt h more =
      let vs = h.0 in
      let v = more.0 in
      let size = h.1.0 in
      let next : Onward S old (set xs i y) (Fronts (map front_of (vs ++ v ∷ []))) = λ cs s.
      let w = h.1.1.0 cs s in
      let z = set_on S (front_of v) xs i x y lt more.1.0 w.0 w.1.0 in
      (z.0, (z.1.0, front_more vs i v cs w.0 z.0 size w.1.1 z.1.1)) in
      let added : Adds from to (map single (vs ++ v ∷ [])) = subst (Adds from to) (sym (singles_more vs v)) (adds_then from mid to (map single vs) (single v ∷ []) h.1.1.1 more.1.1) in
      (vs ++ v ∷ [], (length-append vs (v ∷ []) ∙ ap (λ (n : ℕ). n + 1) size, (next, added)))

  -- once each did
  pub shows_row : (old new : List A) (from to : List Token → Type 0) (n : ℕ) → n ≡ length old → Shown n old new from to → (fs : Fields) (rows : List ValueTrees) → is_flat fs ≡ true → StandForRows S old fs rows → 0 < length rows → ShowsFirst (StandForRows S new fs) from to rows
  shows_row old new from to n all h fs [] flat s more = absurd (omega (arith, more))
  shows_row old new from to n all h fs (row ∷ rest) flat s more =
      let w = h.1.1.0 (columns fs (row ∷ rest)) s.stand in
      let size : length h.0 ≡ length (leaves_of fs) = h.1.0 ∙ all ∙ stand_length S old (columns fs (row ∷ rest)) s.stand ∙ length-map (leaves_of fs) (λ (l : Leaf). column (row ∷ rest) l.steps) in
      let r = row_from 0 fs row row rest h.0 w.0 flat (no_index row) s.fit.0 size w.1.1 in
      record { first = row; rest = rest; split = refl; stands = record { fit = s.fit.1; stand = subst (AllStand S new) r.0 w.1.0 }; shown = subst (Adds from to) r.1 h.1.1.1 }

  -- the next source is to give a value
  pub only_memory : (i : ℕ) (old xs : List A) (x : A) (from mid : List Token → Type 0) (f : Fault) → i < length old → length xs ≡ length old → Shown i old xs from mid → ((es : List Entry) → S (get_or xs i x) es → BeginsWithValue es → f ≡ fault.Memory)
      → (fs : Fields) (rows : List ValueTrees) → is_flat fs ≡ true → StandForRows S old fs rows → 0 < length rows → f ≡ fault.Memory
  only_memory i old xs x from mid f lt same h known fs [] flat s more = absurd (omega (arith, more))
  only_memory i old xs x from mid f lt same h known fs (row ∷ rest) flat s more =
      let cs = columns fs (row ∷ rest) in
      let w = h.1.1.0 cs s.stand in
      let size = stand_length S old cs s.stand in
      known (get_or w.0 i []) (stand_get S xs w.0 i x (omega (arith, lt, same)) w.1.0) (subst BeginsWithValue (untouched h.0 i cs w.0 h.1.0 w.1.1) (begins_each 0 fs row rest i flat (omega (arith, lt, size))))
