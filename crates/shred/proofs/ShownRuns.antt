-- What columns hold after the values of a row that fits.
use Rattle.std.proofs.Common.{◌≡◌, ℕ, suc, ◌+◌, Bool, true, false, true≢false, List, [], ◌∷◌, ◌++◌, map, length, Option, Some, refl, ap, ap₂, sym, ◌∙◌}
use Rattle.std.proofs.lemmas.List.{append-nil, length-map}
use Rattle.std.proofs.lemmas.Grind.{flat_map-append}
use Rattle.std.proofs.lemmas.Bool.{and_parts as and_true}
use Rattle.schema.specs.declared.value.Repetition.{Repetition}
use Rattle.schema.specs.declared.value.Repetition.TheVariants.{Required, Optional, Repeated}
use Rattle.schema.specs.declared.value.Kind.{Kind}
use Rattle.schema.specs.declared.value.Kind.TheVariants.{Boolean, Int32, Int64, ByteArray, FixedLenByteArray}
use Rattle.schema.specs.declared.annotation.GroupAnnotation.{GroupAnnotation}
use Rattle.schema.specs.Annotations.{LeafType}
use Rattle.schema.specs.Values.{ValueTree, null, boolean, integer, bytes, group, list, ValueTrees, no_values, value, each, member_at}
use Rattle.schema.specs.Shape.{Field, leaf, fields, Fields, no_fields, field, repetition_of}
use Rattle.schema.specs.Fits.{fits_kind, fits_leaf, fits_as, is_group, fits, fits_each}
use Rattle.schema.specs.Stripe.{Entry, Leaf, leaves, leaves_of, stripe, stripe_as, list_items, later_items, column, columns}
use Rattle.assemble.specs.Sinks.{group_ends, list_ends, tokens, tokens_each}
use Rattle.shred.specs.declared.field.Levels.{Levels}
use Rattle.shred.specs.inner.Growing.{Columns, grown, nils, levels_at, stripes, stripes_inside, stripes_items, stripes_later, stripes_each, absences}
use Rattle.shred.specs.inner.Filling.{State, Level, in_group, in_list, held, next, of_field, item_levels, begun, given, deeper, single_stripes, single_given, entered, left, inside, items, step, run, root}
use Rattle.shred.proofs.Growing.{leaves_split}
use Rattle.shred.proofs.ShownSteps.{run_append, same_held, given_none, given_twice, grown_again, grown_nothing, there_given}

-- the value of a field stands after the values of others
shifted : (i : ℕ) (fs : Fields) (v : ValueTree) (vs : ValueTrees) (x : Levels) → stripes_each (suc i) fs (value v vs) x ≡ stripes_each i fs vs x
shifted i no_fields v vs x = refl
shifted i (field f fs) v vs x =
    leaves_split (λ (l : Leaf). stripe l.steps (group (value v vs)) x.repetition x.definition x.repeated) (suc i) f fs
    ∙ ap (λ (t : Columns). map (λ (l : Leaf). stripe_as (repetition_of f) (stripe l.steps) (member_at i vs) x.repetition x.definition x.repeated) (leaves f) ++ t) (shifted (suc i) fs v vs x)
    ∙ sym (leaves_split (λ (l : Leaf). stripe l.steps (group vs) x.repetition x.definition x.repeated) i f fs)

each_split : (f : Field) (fs : Fields) (v : ValueTree) (vs : ValueTrees) (x : Levels) → stripes_each 0 (field f fs) (value v vs) x ≡ stripes f v x ++ stripes_each 0 fs vs x
each_split f fs v vs x =
    leaves_split (λ (l : Leaf). stripe l.steps (group (value v vs)) x.repetition x.definition x.repeated) 0 f fs
    ∙ ap (λ (t : Columns). stripes f v x ++ t) (shifted 0 fs v vs x)

-- ---- values whose repetition is aside

-- values that pass give their stripes, one deeper where they may be absent
abbrev IsGivenAs : Field → Repetition → (ValueTree → Bool) → Type 0
IsGivenAs f q p = (v : ValueTree) → p v ≡ true → (s : State) (x : Levels) → next s.here ≡ Some (of_field f q x) → run s (tokens v) ≡ given (begun s) (stripes_inside f v (deeper q x))

no_null : (k : Kind) → fits_kind k null ≡ true → ⊥
no_null Boolean h = true≢false (sym h)
no_null Int32 h = true≢false (sym h)
no_null Int64 h = true≢false (sym h)
no_null ByteArray h = true≢false (sym h)
no_null (FixedLenByteArray n) h = true≢false (sym h)

no_group : (k : Kind) (vs : ValueTrees) → fits_kind k (group vs) ≡ true → ⊥
no_group Boolean vs h = true≢false (sym h)
no_group Int32 vs h = true≢false (sym h)
no_group Int64 vs h = true≢false (sym h)
no_group ByteArray vs h = true≢false (sym h)
no_group (FixedLenByteArray n) vs h = true≢false (sym h)

no_list : (k : Kind) (vs : ValueTrees) → fits_kind k (list vs) ≡ true → ⊥
no_list Boolean vs h = true≢false (sym h)
no_list Int32 vs h = true≢false (sym h)
no_list Int64 vs h = true≢false (sym h)
no_list ByteArray vs h = true≢false (sym h)
no_list (FixedLenByteArray n) vs h = true≢false (sym h)

leaf_given : (n : List ℕ) (r : Repetition) (t : LeafType) (q : Repetition) → IsGivenAs (leaf n r t) q (fits_leaf t)
leaf_given n r t q null h s x e = absurd (no_null t.kind (and_true (fits_kind t.kind null) _ h).0)
leaf_given n r t q (boolean b) h s x e = ap (λ o. single_given o (begun s) (boolean b)) e ∙ ap (λ (c : List Entry). given (begun s) (c ∷ [])) (there_given q x (boolean b) (λ n. cc))
leaf_given n r t q (integer z) h s x e = ap (λ o. single_given o (begun s) (integer z)) e ∙ ap (λ (c : List Entry). given (begun s) (c ∷ [])) (there_given q x (integer z) (λ n. cc))
leaf_given n r t q (bytes b) h s x e = ap (λ o. single_given o (begun s) (bytes b)) e ∙ ap (λ (c : List Entry). given (begun s) (c ∷ [])) (there_given q x (bytes b) (λ n. cc))
leaf_given n r t q (group vs) h s x e = absurd (no_group t.kind vs (and_true (fits_kind t.kind (group vs)) _ h).0)
leaf_given n r t q (list vs) h s x e = absurd (no_list t.kind vs (and_true (fits_kind t.kind (list vs)) _ h).0)

-- the values of fields give theirs
abbrev AreGiven : Fields → Type 0
AreGiven fs =
    (vs : ValueTrees) → fits_each fs vs ≡ true → (cs : Columns) (at : ℕ) (x : Levels) (outer : List Level)
    → run (held cs at (in_group fs x) outer) (tokens_each vs) ≡ held (grown cs (nils at ++ stripes_each 0 fs vs x)) (at + length (stripes_each 0 fs vs x)) (in_group no_fields x) outer

group_given : (n : List ℕ) (r : Repetition) (a : Option GroupAnnotation) (fs : Fields) → AreGiven fs → (q : Repetition) → IsGivenAs (fields n r a fs) q (is_group (fits_each fs))
group_given n r a fs all q null h s x e = absurd (true≢false (sym h))
group_given n r a fs all q (boolean b) h s x e = absurd (true≢false (sym h))
group_given n r a fs all q (integer z) h s x e = absurd (true≢false (sym h))
group_given n r a fs all q (bytes b) h s x e = absurd (true≢false (sym h))
group_given n r a fs all q (list vs) h s x e = absurd (true≢false (sym h))
group_given n r a fs all q (group vs) h s x e =
    let b = begun s in
    run_append (entered b (inside (next s.here))) (tokens_each vs) (group_ends ∷ [])
    ∙ ap (λ o. left (run (entered b (inside o)) (tokens_each vs))) e
    ∙ ap left (all vs h b.columns b.at (deeper q x) (b.here ∷ b.outer))

-- ---- lists

module _ (f : Field) (p : ValueTree → Bool) (one : IsGivenAs f Required p) where
  later_given : (vs : ValueTrees) → each p vs ≡ true → (cs : Columns) (at start : ℕ) (x : Levels) (outer : List Level) → at ≡ start + length (leaves f)
      → run (held cs at (in_list f start x true) outer) (tokens_each vs) ≡ held (grown cs (nils start ++ stripes_later f vs (suc x.definition) (suc x.repeated))) at (in_list f start x true) outer
  later_given no_values h cs at start x outer size =
      ap (λ (t : Columns). held t at (in_list f start x true) outer) (sym (grown_nothing start (λ (l : Leaf). later_items (stripe l.steps) no_values (suc x.definition) (suc x.repeated)) (leaves f) cs (λ l. refl)))
  later_given (value v vs) h cs at start x outer size =
      let q = and_true (p v) (each p vs) h in
      let s = held cs at (in_list f start x true) outer in
      let own = stripes_inside f v (item_levels true x) in
      let many : start + length own ≡ at = ap (λ n. start + n) (length-map (leaves f) (λ (l : Leaf). stripe l.steps v (suc x.repeated) (suc x.definition) (suc x.repeated))) ∙ sym size in
      run_append s (tokens v) (tokens_each vs) ∙ ap (λ t. run t (tokens_each vs)) (one v q.0 s (item_levels true x) refl)
      ∙ ap (λ n. run (held (grown cs (nils start ++ own)) n (in_list f start x true) outer) (tokens_each vs)) many
      ∙ later_given vs q.1 (grown cs (nils start ++ own)) at start x outer size
      ∙ ap (λ (t : Columns). held t at (in_list f start x true) outer)
      (grown_again start (λ (l : Leaf). stripe l.steps v (suc x.repeated) (suc x.definition) (suc x.repeated)) (λ (l : Leaf). later_items (stripe l.steps) vs (suc x.definition) (suc x.repeated)) (leaves f) cs)

  items_given : (vs : ValueTrees) → each p vs ≡ true → (cs : Columns) (at : ℕ) (x : Levels) (l : Level) (ls : List Level)
      → step (run (held cs at (in_list f at x false) (l ∷ ls)) (tokens_each vs)) list_ends ≡ held (grown cs (nils at ++ stripes_items f vs x)) (at + length (stripes_items f vs x)) l ls
  items_given no_values h cs at x l ls = refl
  items_given (value v vs) h cs at x l ls =
      let q = and_true (p v) (each p vs) h in
      let s = held cs at (in_list f at x false) (l ∷ ls) in
      let first : Leaf → List Entry = λ (l : Leaf). stripe l.steps v x.repetition (suc x.definition) (suc x.repeated) in
      let others : Leaf → List Entry = λ (l : Leaf). later_items (stripe l.steps) vs (suc x.definition) (suc x.repeated) in
      let own = map first (leaves f) in
      let size : length own ≡ length (leaves f) = length-map (leaves f) first in
      let all : length own ≡ length (stripes_items f (value v vs) x) = size ∙ sym (length-map (leaves f) (λ (l : Leaf). list_items (stripe l.steps) (value v vs) x.repetition x.definition x.repeated)) in
      ap (λ t. step t list_ends) (run_append s (tokens v) (tokens_each vs) ∙ ap (λ t. run t (tokens_each vs)) (one v q.0 s (item_levels false x) refl)
      ∙ later_given vs q.1 (grown cs (nils at ++ own)) (at + length own) at x (l ∷ ls) (ap (λ n. at + n) size))
      ∙ same_held _ _ _ _ l ls (grown_again at first others (leaves f) cs) (ap (λ n. at + n) all)

  list_given : (vs : ValueTrees) → each p vs ≡ true → (s : State) (x : Levels) → next s.here ≡ Some (of_field f Repeated x) → run s (tokens (list vs)) ≡ given (begun s) (stripes_items f vs x)
  list_given vs h s x e =
      let b = begun s in
      run_append (entered b (items (next s.here) b.at)) (tokens_each vs) (list_ends ∷ [])
      ∙ ap (λ o. step (run (entered b (items o b.at)) (tokens_each vs)) list_ends) e
      ∙ items_given vs h b.columns b.at x b.here b.outer

-- ---- fields

-- values that fit a field give their stripes
abbrev IsGivenWhole : Field → Repetition → (ValueTree → Bool) → Type 0
IsGivenWhole f r p = (v : ValueTree) → p v ≡ true → (s : State) (x : Levels) → next s.here ≡ Some (of_field f r x)
    → run s (tokens v) ≡ given (begun s) (map (λ (l : Leaf). stripe_as r (stripe l.steps) v x.repetition x.definition x.repeated) (leaves f))

null_given : (f : Field) (x : Levels) → single_stripes f Optional x null ≡ absences f x
null_given (leaf n r t) x = refl
null_given (fields n r a fs) x = refl

as_given : (f : Field) (p : ValueTree → Bool) → ((q : Repetition) → IsGivenAs f q p) → (r : Repetition) → IsGivenWhole f r (fits_as r p)
as_given f p one Required v h s x e = one Required v h s x e
as_given f p one Optional null h s x e = ap (λ o. single_given o (begun s) null) e ∙ ap (given (begun s)) (null_given f x)
as_given f p one Optional (boolean b) h s x e = one Optional (boolean b) h s x e
as_given f p one Optional (integer z) h s x e = one Optional (integer z) h s x e
as_given f p one Optional (bytes b) h s x e = one Optional (bytes b) h s x e
as_given f p one Optional (group vs) h s x e = one Optional (group vs) h s x e
as_given f p one Optional (list vs) h s x e = one Optional (list vs) h s x e
as_given f p one Repeated null h s x e = absurd (true≢false (sym h))
as_given f p one Repeated (boolean b) h s x e = absurd (true≢false (sym h))
as_given f p one Repeated (integer z) h s x e = absurd (true≢false (sym h))
as_given f p one Repeated (bytes b) h s x e = absurd (true≢false (sym h))
as_given f p one Repeated (group vs) h s x e = absurd (true≢false (sym h))
as_given f p one Repeated (list vs) h s x e = list_given f p (one Required) vs h s x e

mutual
  field_given : (f : Field) → IsGivenWhole f (repetition_of f) (fits f)
  field_given (leaf n r t) v h s x e = as_given (leaf n r t) (fits_leaf t) (leaf_given n r t) r v h s x e
  field_given (fields n r a fs) v h s x e = as_given (fields n r a fs) (is_group (fits_each fs)) (group_given n r a fs (fields_given fs)) r v h s x e

  fields_given : (fs : Fields) → AreGiven fs
  fields_given no_fields no_values h cs at x outer = sym (given_none (held cs at (in_group no_fields x) outer))
  fields_given no_fields (value v vs) h cs at x outer = absurd (true≢false (sym h))
  fields_given (field f fs) no_values h cs at x outer = absurd (true≢false (sym h))
  fields_given (field f fs) (value v vs) h cs at x outer =
      let q = and_true (fits f v) (fits_each fs vs) h in
      let s = held cs at (in_group (field f fs) x) outer in
      let own = stripes f v x in
      run_append s (tokens v) (tokens_each vs) ∙ ap (λ t. run t (tokens_each vs)) (field_given f v q.0 s x refl)
      ∙ fields_given fs vs q.1 (grown cs (nils at ++ own)) (at + length own) x outer
      ∙ given_twice (held cs at (in_group no_fields x) outer) own (stripes_each 0 fs vs x)
      ∙ ap (given (held cs at (in_group no_fields x) outer)) (sym (each_split f fs v vs x))

-- ---- rows

-- columns of one row more
columns_more : (rows : List ValueTrees) (row : ValueTrees) (ls : List Leaf)
    → grown (map (λ (l : Leaf). column rows l.steps) ls) (map (λ (l : Leaf). stripe l.steps (group row) 0 0 0) ls) ≡ map (λ (l : Leaf). column (rows ++ row ∷ []) l.steps) ls
columns_more rows row [] = refl
columns_more rows row (l ∷ ls) =
    ap₂ (λ (x : List Entry) (xs : Columns). x ∷ xs)
    (sym (flat_map-append (λ (vs : ValueTrees). stripe l.steps (group vs) 0 0 0) rows (row ∷ []) ∙ ap (λ (t : List Entry). column rows l.steps ++ t) (append-nil (stripe l.steps (group row) 0 0 0))))
    (columns_more rows row ls)

-- after the values of a row that fits, the columns are those of one row more
pub row_given : (fs : Fields) (rows : List ValueTrees) (row : ValueTrees) → fits_each fs row ≡ true → (run (root fs (columns fs rows)) (tokens_each row)).columns ≡ columns fs (rows ++ row ∷ [])
row_given fs rows row h =
    ap (λ (s : State). s.columns) (fields_given fs row h (columns fs rows) 0 (levels_at 0 0 0) [])
    ∙ columns_more rows row (leaves_of fs)
