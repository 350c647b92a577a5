-- A value of one kind that is read is one of another.
use Rattle.std.proofs.Common.{ℕ, suc, ◌≡◌, ◌+◌, ◌≤◌, ◌<◌, true, false, Bool, List, [], ◌∷◌, ◌++◌, map, length, refl, ap, sym, subst, ◌∙◌, arith, add-one, None, inl, inr}
use Rattle.std.specs.List.{AllByRecursion}
use Rattle.std.proofs.lemmas.List.{length-map}
use Rattle.std.proofs.lemmas.Bool.{and_parts, false≢true}
use Rattle.bits.specs.declared.refusal.Refusal.{Refusal}
use Rattle.schema.specs.declared.value.Repetition.{Repetition}
use Rattle.schema.specs.declared.value.Repetition.TheVariants.{Required, Optional, Repeated}
use Rattle.schema.specs.Values.{ValueTree, null, list, ValueTrees, no_values, value as item, each}
use Rattle.schema.specs.Shape.{Field, leaf, fields, repetition_of}
use Rattle.schema.specs.declared.value.Kind.{Kind}
use Rattle.schema.specs.declared.value.Kind.TheVariants.{Boolean, Int32, Int64, ByteArray, FixedLenByteArray}
use Rattle.schema.specs.Fits.{fits, fits_as, fits_inside, fits_kind}
use Rattle.schema.specs.Stripe.{Entry, entry, Leaf, leaves, stripe, stripe_as, list_items, definitions, greatest_definition}
use Rattle.schema.specs.Law.{IsValid}
use Rattle.schema.specs.Reading.{count_leaves}
use Rattle.schema.proofs.LeafLaws.{Starts, Starts-append, when_optional, when_repeated}
use Rattle.schema.proofs.CutSteps.{count_is}
use Rattle.assemble.specs.Sources.{Begins}
use Rattle.assemble.specs.Columns.{Columns, level, AreAlike, Want, AllSuit, Fronts}
use Rattle.assemble.specs.inner.Fronts.{AreEnds, stripes, stripes_inside, stripes_items, nones, wants, wants_inside, Fit, FitInside, FitItems}
use Rattle.assemble.specs.inner.Steps.{missing_value, AreAbove, IsSkipFaulty, NoneLeft, first_of, IsMissing}
use Rattle.assemble.specs.inner.ReadValues.{HasLevels, IsRead, IsFaulty}
use Rattle.assemble.proofs.Fronts.{fronts_alike, alike_parts}
use Rattle.assemble.proofs.Told.{tells_more}
use Rattle.assemble.proofs.Skipping.{begins_alike}
use Rattle.assemble.proofs.Starting.{StartsAt, all_start, has_leaf, fit_as}

pub map_same : {A B : Type 0} (f g : A → B) (xs : List A) → ((x : A) → f x ≡ g x) → map f xs ≡ map g xs
map_same f g [] h = refl
map_same f g (x ∷ xs) h = ap (λ t. t ∷ map f xs) (h x) ∙ ap (λ t. g x ∷ t) (map_same f g xs h)

pub levels_as : {A B : Type 0} (P : A → Type 0) (St : A → Columns) (Q : B → Type 0) (Tt : B → Columns) (k : ℕ) (old rests : Columns) (w : HasLevels Q Tt k old rests) (x : A) → P x → Tt w.value ≡ St x → HasLevels P St k old rests
levels_as P St Q Tt k old rests w x fit same = record {
  value = x;
  fits = fit;
  whole = w.whole;
  alike = w.alike;
  front = subst (λ s. Fronts s w.whole rests) same w.front;
  ends = subst (λ s. AreEnds k s rests) same w.ends;
}

pub read_up : {A B : Type 0} (P : A → Type 0) (St : A → Columns) (Q : B → Type 0) (Tt : B → Columns) (k : ℕ) (old new : Columns) (x : A) (y : B)
    → (P x → Q y) → (P x → Tt y ≡ St x) → ((rests : Columns) → HasLevels Q Tt k old rests → HasLevels P St k old rests)
    → IsRead P St k old new x → IsRead Q Tt k old new y
read_up P St Q Tt k old new x y fit same narrow h = record {
  fits = fit h.fits;
  front = subst (λ s. Fronts s old new) (sym (same h.fits)) h.front;
  alone = λ rests w. h.alone rests (narrow rests w);
}

pub faulty_up : {A B : Type 0} (P : A → Type 0) (St : A → Columns) (j : ℕ) (ws : List Want) (Q : B → Type 0) (Tt : B → Columns) (k : ℕ) (vs : List Want) (sub old : Columns) (e : Refusal)
    → ((rests : Columns) → HasLevels Q Tt k old rests → (r : Columns) × HasLevels P St j sub r) → (AllSuit vs old → AllSuit ws sub) → IsFaulty P St j ws sub e → IsFaulty Q Tt k vs old e
faulty_up P St j ws Q Tt k vs sub old e narrow suit h = tells_more _ _ _ _ (λ none rests w. let n = narrow rests w in none n.0 n.1) (λ none s. none (suit s)) e h

-- the first column
first_alike : (ss whole rests old : Columns) → Fronts ss whole rests → AreAlike whole old → 0 < length ss → (map level (first_of whole) ≡ map level (first_of old)) × (first_of whole ≡ first_of ss ++ first_of rests)
first_alike [] whole rests old h w lt = absurd (omega (arith, lt))
first_alike (s ∷ ss) [] rests old h w lt = absurd h
first_alike (s ∷ ss) (v ∷ whole) [] old h w lt = absurd h
first_alike (s ∷ ss) (v ∷ whole) (r ∷ rests) [] h w lt = cc
first_alike (s ∷ ss) (v ∷ whole) (r ∷ rests) (o ∷ old) h w lt = ((alike_parts v o whole old w).0, h.0)

starts_alike : (r d : ℕ) (w o : List Entry) → map level w ≡ map level o → Starts r d w → Starts r d o
starts_alike r d [] o h s = absurd s
starts_alike r d (x ∷ w) [] h s = cc
starts_alike r d (x ∷ w) (y ∷ o) h s =
    let first : level x ≡ level y = cc in
    (sym (ap (λ p. p.0) first) ∙ s.0, subst (λ n. d ≤ n) (ap (λ p. p.1) first) s.1)

-- the columns begin as the stripes do
pub starts_there : (ss whole rests old : Columns) (r d : ℕ) → 0 < length ss → Fronts ss whole rests → AreAlike whole old → Starts r d (first_of ss) → Starts r d (first_of old)
starts_there ss whole rests old r d lt h w s =
    let p = first_alike ss whole rests old h w lt in
    starts_alike r d (first_of whole) (first_of old) p.0 (subst (Starts r d) (sym p.1) (Starts-append r d (first_of ss) (first_of rests) s))

pub begins_there : (ss whole rests old : Columns) (r d : ℕ) → 0 < length ss → Fronts ss whole rests → AreAlike whole old → first_of ss ≡ entry r d None → Begins (first_of old) r d
begins_there ss whole rests old r d lt h w is =
    let p = first_alike ss whole rests old h w lt in
    begins_alike (first_of whole) (first_of old) (first_of rests) r d None p.0 (p.1 ∙ ap (λ t. t ++ first_of rests) is)

not_missing : (r d : ℕ) (o : List Entry) → Starts r (suc d) o → IsMissing d o true → ⊥
not_missing r d [] s m = s
not_missing r d (e ∷ o) s m = omega (arith, s.1, m)

not_there : (r d : ℕ) (o : List Entry) → Begins o r d → IsMissing d o false → ⊥
not_there r d [] b m = b
not_there r d (e ∷ o) b m = omega (arith, b.1, m)

-- the stripes of a value begin where it does
pub first_starts : (Q : ValueTree → Bool) (ls : List Leaf) (v : ValueTree) → AllByRecursion (StartsAt Q) ls → 0 < length ls → Q v ≡ true → (r d k : ℕ) → Starts r d (first_of (map (λ (l : Leaf). stripe l.steps v r d k) ls))
first_starts Q [] v a lt h r d k = absurd (omega (arith, lt))
first_starts Q (l ∷ ls) v a lt h r d k = a.0 v h r d k

items_start : (Q : ValueTree → Bool) (ls : List Leaf) (v : ValueTree) (vs : ValueTrees) → AllByRecursion (StartsAt Q) ls → 0 < length ls → Q v ≡ true → (r d k : ℕ) → Starts r (suc d) (first_of (map (λ (l : Leaf). list_items (stripe l.steps) (item v vs) r d k) ls))
items_start Q [] v vs a lt h r d k = absurd (omega (arith, lt))
items_start Q (l ∷ ls) v vs a lt h r d k = Starts-append r (suc d) _ _ (a.0 v h r (suc d) (suc k))

nones_first : (ls : List Leaf) (r d : ℕ) → 0 < length ls → first_of (map (λ (l : Leaf). entry r d None) ls) ≡ entry r d None
nones_first [] r d lt = absurd (omega (arith, lt))
nones_first (l ∷ ls) r d lt = refl

map_nones : (ls : List Leaf) (r d : ℕ) → map (λ (l : Leaf). entry r d None) ls ≡ nones r d (length ls)
map_nones [] r d = refl
map_nones (l ∷ ls) r d = ap (λ t. entry r d None ∷ t) (map_nones ls r d)

-- by the repetition of a field
pub stripes_as : (f : Field) (x : Repetition) → repetition_of f ≡ x → (r d k : ℕ) (v : ValueTree) → stripes f r d k v ≡ map (λ (l : Leaf). stripe_as x (stripe l.steps) v r d k) (leaves f)
stripes_as f x e r d k v = ap (λ y. map (λ (l : Leaf). stripe_as y (stripe l.steps) v r d k) (leaves f)) e

pub fits_by : (f : Field) (x : Repetition) → repetition_of f ≡ x → (v : ValueTree) → fits f v ≡ fits_as x (fits_inside f) v
fits_by f x e v = fit_as f v ∙ ap (λ y. fits_as y (fits_inside f) v) e

pub wants_as : (f : Field) (d n : ℕ) → definitions (repetition_of f) ≡ n → wants f d ≡ wants_inside f (d + n)
wants_as f d n e = map_same _ _ (leaves f) (λ (l : Leaf). ap (λ (m : ℕ). record { full = m; leaf_type = l.leaf_type }) (omega (arith, e)))

pub required_levels : (f : Field) → repetition_of f ≡ Required → (r d k : ℕ) (old rests : Columns) → HasLevels (Fit f) (stripes f r d k) k old rests → HasLevels (FitInside f) (stripes_inside f r d k) k old rests
required_levels f e r d k old rests w =
    levels_as (FitInside f) (stripes_inside f r d k) (Fit f) (stripes f r d k) k old rests w w.value (sym (fits_by f Required e w.value) ∙ w.fits) (stripes_as f Required e r d k w.value)

pub read_required : (f : Field) → repetition_of f ≡ Required → (r d k : ℕ) (old new : Columns) (v : ValueTree) → IsRead (FitInside f) (stripes_inside f r d k) k old new v → IsRead (Fit f) (stripes f r d k) k old new v
read_required f e r d k old new v =
    read_up (FitInside f) (stripes_inside f r d k) (Fit f) (stripes f r d k) k old new v v (λ h. fits_by f Required e v ∙ h) (λ h. stripes_as f Required e r d k v) (required_levels f e r d k old)

pub faulty_required : (f : Field) → repetition_of f ≡ Required → (r d k : ℕ) (old : Columns) (e : Refusal) → IsFaulty (FitInside f) (stripes_inside f r d k) k (wants_inside f d) old e → IsFaulty (Fit f) (stripes f r d k) k (wants f d) old e
faulty_required f is r d k old e =
    let zero_more : d + 0 ≡ d = omega arith in
    faulty_up (FitInside f) (stripes_inside f r d k) k (wants_inside f d) (Fit f) (stripes f r d k) k (wants f d) old old e (λ rests w. (rests, required_levels f is r d k old rests w))
    (λ s. subst (λ n. AllSuit (wants_inside f n) old) zero_more (subst (λ ws. AllSuit ws old) (wants_as f d 0 (ap definitions is)) s))

-- an OPTIONAL value that is there
pub present_levels : (f : Field) → repetition_of f ≡ Optional → IsValid f → (r d k : ℕ) (old rests : Columns) → IsMissing d (first_of old) false → HasLevels (Fit f) (stripes f r d k) k old rests → HasLevels (FitInside f) (stripes_inside f r (d + 1) k) k old rests
present_levels f e valid r d k old rests m w =
    let shown = stripes_as f Optional e r d k w.value in
    let fitted = sym (fits_by f Optional e w.value) ∙ w.fits in
    elim (when_optional w.value) [
      | inl is ↦
          let nothing : stripes f r d k w.value ≡ map (λ (l : Leaf). entry r d None) (leaves f) = shown ∙ ap (λ v. map (λ (l : Leaf). stripe_as Optional (stripe l.steps) v r d k) (leaves f)) is in
          absurd (not_there r d (first_of old) (begins_there (map (λ (l : Leaf). entry r d None) (leaves f)) w.whole rests old r d (subst (λ n. 0 < n) (sym (length-map (leaves f) (λ (l : Leaf). entry r d None))) (has_leaf f valid)) (subst (λ s. Fronts s w.whole rests) nothing w.front) w.alike (nones_first (leaves f) r d (has_leaf f valid))) m)
      | inr o ↦
          levels_as (FitInside f) (stripes_inside f r (d + 1) k) (Fit f) (stripes f r d k) k old rests w w.value (sym (o.1 (fits_inside f)) ∙ fitted)
          (shown ∙ map_same _ _ (leaves f) (λ (l : Leaf). o.0 (stripe l.steps) r d k) ∙ ap (λ n. stripes_inside f r n k w.value) (sym (add-one d)))
    ]

kind_null : (k : Kind) → fits_kind k null ≡ true → ⊥
kind_null Boolean h = false≢true h
kind_null Int32 h = false≢true h
kind_null Int64 h = false≢true h
kind_null ByteArray h = false≢true h
kind_null (FixedLenByteArray n) h = false≢true h

-- what fits a field inside is no null
not_null : (f : Field) → FitInside f null → ⊥
not_null (leaf n r t) h = kind_null t.kind (and_parts (fits_kind t.kind null) _ h).0
not_null (fields n r a fs) h = false≢true h

pub present_fits : (f : Field) → repetition_of f ≡ Optional → (v : ValueTree) → FitInside f v → Fit f v
present_fits f e v h = fits_by f Optional e v ∙ elim (when_optional v) [
  | inl is ↦ absurd (not_null f (subst (FitInside f) is h))
  | inr o ↦ o.1 (fits_inside f) ∙ h
]

pub present_stripes : (f : Field) → repetition_of f ≡ Optional → (r d k : ℕ) (v : ValueTree) → FitInside f v → stripes f r d k v ≡ stripes_inside f r (d + 1) k v
present_stripes f e r d k v h = stripes_as f Optional e r d k v ∙ elim (when_optional v) [
  | inl is ↦ absurd (not_null f (subst (FitInside f) is h))
  | inr o ↦ map_same _ _ (leaves f) (λ (l : Leaf). o.0 (stripe l.steps) r d k) ∙ ap (λ n. stripes_inside f r n k v) (sym (add-one d))
]

pub read_present : (f : Field) → repetition_of f ≡ Optional → IsValid f → (r d k : ℕ) (old new : Columns) (v : ValueTree) → IsMissing d (first_of old) false → IsRead (FitInside f) (stripes_inside f r (d + 1) k) k old new v → IsRead (Fit f) (stripes f r d k) k old new v
read_present f e valid r d k old new v m =
    read_up (FitInside f) (stripes_inside f r (d + 1) k) (Fit f) (stripes f r d k) k old new v v (present_fits f e v) (present_stripes f e r d k v) (λ rests w. present_levels f e valid r d k old rests m w)

pub faulty_present : (f : Field) → repetition_of f ≡ Optional → IsValid f → (r d k : ℕ) (old : Columns) (e : Refusal) → IsMissing d (first_of old) false → IsFaulty (FitInside f) (stripes_inside f r (d + 1) k) k (wants_inside f (d + 1)) old e → IsFaulty (Fit f) (stripes f r d k) k (wants f d) old e
faulty_present f is valid r d k old e m =
    faulty_up (FitInside f) (stripes_inside f r (d + 1) k) k (wants_inside f (d + 1)) (Fit f) (stripes f r d k) k (wants f d) old old e (λ rests w. (rests, present_levels f is valid r d k old rests m w))
    (λ s. subst (λ ws. AllSuit ws old) (wants_as f d 1 (ap definitions is)) s)

-- a list that is not empty
pub items_levels : (f : Field) → repetition_of f ≡ Repeated → IsValid f → (r d k : ℕ) (old rests : Columns) → IsMissing d (first_of old) false → HasLevels (Fit f) (stripes f r d k) k old rests → HasLevels (FitItems f) (stripes_items f r d k) k old rests
items_levels f e valid r d k old rests m w =
    let fitted = sym (fits_by f Repeated e w.value) ∙ w.fits in
    let found = when_repeated w.value (fits_inside f) fitted in
    let shown : stripes f r d k w.value ≡ stripes_items f r d k found.0 = stripes_as f Repeated e r d k w.value ∙ ap (λ v. map (λ (l : Leaf). stripe_as Repeated (stripe l.steps) v r d k) (leaves f)) found.1.0 in
    levels_as (FitItems f) (stripes_items f r d k) (Fit f) (stripes f r d k) k old rests w found.0
    (some found.0 found.1.1 (subst (λ s. Fronts s w.whole rests) shown w.front)) shown
  where
    some : (vs : ValueTrees) → each (fits_inside f) vs ≡ true → Fronts (stripes_items f r d k vs) w.whole rests → FitItems f vs
    some no_values h front =
        absurd (not_there r d (first_of old) (begins_there (map (λ (l : Leaf). entry r d None) (leaves f)) w.whole rests old r d (subst (λ n. 0 < n) (sym (length-map (leaves f) (λ (l : Leaf). entry r d None))) (has_leaf f valid)) front w.alike (nones_first (leaves f) r d (has_leaf f valid))) m)
    some (item v vs) h front = h

pub all_fit : (f : Field) (vs : ValueTrees) → FitItems f vs → each (fits_inside f) vs ≡ true
all_fit f no_values h = absurd h
all_fit f (item v vs) h = h

pub read_list : (f : Field) → repetition_of f ≡ Repeated → IsValid f → (r d k : ℕ) (old new : Columns) (vs : ValueTrees) → IsMissing d (first_of old) false → IsRead (FitItems f) (stripes_items f r d k) k old new vs → IsRead (Fit f) (stripes f r d k) k old new (list vs)
read_list f e valid r d k old new vs m =
    read_up (FitItems f) (stripes_items f r d k) (Fit f) (stripes f r d k) k old new vs (list vs)
    (λ h. fits_by f Repeated e (list vs) ∙ all_fit f vs h) (λ h. stripes_as f Repeated e r d k (list vs)) (λ rests w. items_levels f e valid r d k old rests m w)

pub faulty_list : (f : Field) → repetition_of f ≡ Repeated → IsValid f → (r d k : ℕ) (old : Columns) (e : Refusal) → IsMissing d (first_of old) false → IsFaulty (FitItems f) (stripes_items f r d k) k (wants_inside f (d + 1)) old e → IsFaulty (Fit f) (stripes f r d k) k (wants f d) old e
faulty_list f is valid r d k old e m =
    faulty_up (FitItems f) (stripes_items f r d k) k (wants_inside f (d + 1)) (Fit f) (stripes f r d k) k (wants f d) old old e (λ rests w. (rests, items_levels f is valid r d k old rests m w))
    (λ s. subst (λ ws. AllSuit ws old) (wants_as f d 1 (ap definitions is)) s)

-- a null, or an empty list
null_front : (f : Field) → repetition_of f ≡ Optional → IsValid f → (r d k : ℕ) (old rests : Columns) → IsMissing d (first_of old) true → (w : HasLevels (Fit f) (stripes f r d k) k old rests) → Fronts (nones r d (count_leaves f)) w.whole rests
null_front f e valid r d k old rests m w =
    let shown = stripes_as f Optional e r d k w.value in
    let fitted = sym (fits_by f Optional e w.value) ∙ w.fits in
    elim (when_optional w.value) [
      | inl is ↦ subst (λ s. Fronts s w.whole rests) (shown ∙ ap (λ v. map (λ (l : Leaf). stripe_as Optional (stripe l.steps) v r d k) (leaves f)) is ∙ map_nones (leaves f) r d ∙ ap (nones r d) (sym (count_is f))) w.front
      | inr o ↦
          let same : stripes f r d k w.value ≡ map (λ (l : Leaf). stripe l.steps w.value r (suc d) k) (leaves f) = shown ∙ map_same _ _ (leaves f) (λ (l : Leaf). o.0 (stripe l.steps) r d k) in
          absurd (not_missing r d (first_of old)
          (starts_there (map (λ (l : Leaf). stripe l.steps w.value r (suc d) k) (leaves f)) w.whole rests old r (suc d) (subst (λ n. 0 < n) (sym (length-map (leaves f) (λ (l : Leaf). stripe l.steps w.value r (suc d) k))) (has_leaf f valid))
          (subst (λ s. Fronts s w.whole rests) same w.front) w.alike (first_starts (fits_inside f) (leaves f) w.value (all_start f) (has_leaf f valid) (sym (o.1 (fits_inside f)) ∙ fitted) r (suc d) k)) m)
    ]

empty_front : (f : Field) → repetition_of f ≡ Repeated → IsValid f → (r d k : ℕ) (old rests : Columns) → IsMissing d (first_of old) true → (w : HasLevels (Fit f) (stripes f r d k) k old rests) → Fronts (nones r d (count_leaves f)) w.whole rests
empty_front f e valid r d k old rests m w =
    let fitted = sym (fits_by f Repeated e w.value) ∙ w.fits in
    let found = when_repeated w.value (fits_inside f) fitted in
    let shown : stripes f r d k w.value ≡ stripes_items f r d k found.0 = stripes_as f Repeated e r d k w.value ∙ ap (λ v. map (λ (l : Leaf). stripe_as Repeated (stripe l.steps) v r d k) (leaves f)) found.1.0 in
    none found.0 found.1.1 (subst (λ s. Fronts s w.whole rests) shown w.front)
  where
    none : (vs : ValueTrees) → each (fits_inside f) vs ≡ true → Fronts (stripes_items f r d k vs) w.whole rests → Fronts (nones r d (count_leaves f)) w.whole rests
    none no_values h front = subst (λ s. Fronts s w.whole rests) (map_nones (leaves f) r d ∙ ap (nones r d) (sym (count_is f))) front
    none (item v vs) h front =
        absurd (not_missing r d (first_of old)
        (starts_there (stripes_items f r d k (item v vs)) w.whole rests old r (suc d) (subst (λ n. 0 < n) (sym (length-map (leaves f) (λ (l : Leaf). list_items (stripe l.steps) (item v vs) r d k))) (has_leaf f valid))
        front w.alike (items_start (fits_inside f) (leaves f) v vs (all_start f) (has_leaf f valid) (and_parts (fits_inside f v) (each (fits_inside f) vs) h).0 r d k)) m)

missing_front : (f : Field) (x : Repetition) → repetition_of f ≡ x → (x ≡ Required → ⊥) → IsValid f → (r d k : ℕ) (old rests : Columns) → IsMissing d (first_of old) true → (w : HasLevels (Fit f) (stripes f r d k) k old rests) → Fronts (nones r d (count_leaves f)) w.whole rests
missing_front f Required e n = absurd (n refl)
missing_front f Optional e n = null_front f e
missing_front f Repeated e n = empty_front f e

pub missing_stripes : (f : Field) (x : Repetition) → repetition_of f ≡ x → (x ≡ Required → ⊥) → (r d k : ℕ) → stripes f r d k (missing_value x) ≡ nones r d (count_leaves f)
missing_stripes f Required e n r d k = absurd (n refl)
missing_stripes f Optional e n r d k = stripes_as f Optional e r d k null ∙ map_nones (leaves f) r d ∙ ap (nones r d) (sym (count_is f))
missing_stripes f Repeated e n r d k = stripes_as f Repeated e r d k (list no_values) ∙ map_nones (leaves f) r d ∙ ap (nones r d) (sym (count_is f))

pub missing_fits : (f : Field) (x : Repetition) → repetition_of f ≡ x → (x ≡ Required → ⊥) → Fit f (missing_value x)
missing_fits f Required e n = absurd (n refl)
missing_fits f Optional e n = fits_by f Optional e null
missing_fits f Repeated e n = fits_by f Repeated e (list no_values)

pub read_missing : (f : Field) (x : Repetition) → repetition_of f ≡ x → (x ≡ Required → ⊥) → IsValid f → (r d k : ℕ) (old new : Columns) → IsMissing d (first_of old) true → Fronts (nones r d (count_leaves f)) old new → IsRead (Fit f) (stripes f r d k) k old new (missing_value x)
read_missing f x e n valid r d k old new m front = record {
  fits = missing_fits f x e n;
  front = subst (λ s. Fronts s old new) (sym (missing_stripes f x e n r d k)) front;
  alone = λ rests w. fronts_alike (nones r d (count_leaves f)) (nones r d (count_leaves f)) old new w.whole rests refl front (missing_front f x e n valid r d k old rests m w) w.alike;
}

all_above : (d : ℕ) (x : Repetition) → (x ≡ Required → ⊥) → (ls : List Leaf) → AreAbove d (map (λ (l : Leaf). record { full = d + (definitions x + greatest_definition l.steps); leaf_type = l.leaf_type }) ls)
all_above d x n [] = tt
all_above d Required n (l ∷ ls) = absurd (n refl)
all_above d Optional n (l ∷ ls) = (omega arith, all_above d Optional n ls)
all_above d Repeated n (l ∷ ls) = (omega arith, all_above d Repeated n ls)

pub faulty_missing : (f : Field) (x : Repetition) → repetition_of f ≡ x → (x ≡ Required → ⊥) → IsValid f → (r d k : ℕ) (old : Columns) (e : Refusal) → IsMissing d (first_of old) true
    → IsSkipFaulty r d (count_leaves f) old e → IsFaulty (Fit f) (stripes f r d k) k (wants f d) old e
faulty_missing f x is n valid r d k old e m h = tells_more _ _ _ _
    (λ none rests w. none w.whole rests w.alike (missing_front f x is n valid r d k old rests m w))
    (λ none s. none (wants f d) (length-map (leaves f) (λ (l : Leaf). record { full = d + (definitions (repetition_of f) + greatest_definition l.steps); leaf_type = l.leaf_type }) ∙ sym (count_is f))
    (subst (λ y. AreAbove d (map (λ (l : Leaf). record { full = d + (definitions y + greatest_definition l.steps); leaf_type = l.leaf_type }) (leaves f))) (sym is) (all_above d x n (leaves f))) s) e h

starts_weaker : (r d : ℕ) (xs : List Entry) → Starts r (suc d) xs → Starts r d xs
starts_weaker r d [] h = h
starts_weaker r d (x ∷ xs) h = (h.0, omega (arith, h.1))

starts_none : (r d : ℕ) (xs : List Entry) → xs ≡ entry r d None → Starts r d xs
starts_none r d xs e = subst (Starts r d) (sym e) (refl, omega arith)

-- the stripes of a field's value begin at its levels, or deeper
field_starts : (f : Field) (x : Repetition) → repetition_of f ≡ x → IsValid f → (v : ValueTree) → Fit f v → (r d k : ℕ) → Starts r d (first_of (stripes f r d k v))
field_starts f Required e valid v h r d k =
    subst (λ s. Starts r d (first_of s)) (sym (stripes_as f Required e r d k v)) (first_starts (fits_inside f) (leaves f) v (all_start f) (has_leaf f valid) (sym (fits_by f Required e v) ∙ h) r d k)
field_starts f Optional e valid v h r d k =
    let shown = stripes_as f Optional e r d k v in
    elim (when_optional v) [
      | inl is ↦ starts_none r d _ (ap first_of (shown ∙ ap (λ u. map (λ (l : Leaf). stripe_as Optional (stripe l.steps) u r d k) (leaves f)) is) ∙ nones_first (leaves f) r d (has_leaf f valid))
      | inr o ↦ subst (λ s. Starts r d (first_of s)) (sym (shown ∙ map_same _ _ (leaves f) (λ (l : Leaf). o.0 (stripe l.steps) r d k)))
          (starts_weaker r d _ (first_starts (fits_inside f) (leaves f) v (all_start f) (has_leaf f valid) (sym (o.1 (fits_inside f)) ∙ sym (fits_by f Optional e v) ∙ h) r (suc d) k))
    ]
field_starts f Repeated e valid v h r d k =
    let found = when_repeated v (fits_inside f) (sym (fits_by f Repeated e v) ∙ h) in
    subst (λ s. Starts r d (first_of s)) (sym (stripes_as f Repeated e r d k v ∙ ap (λ u. map (λ (l : Leaf). stripe_as Repeated (stripe l.steps) u r d k) (leaves f)) found.1.0)) (begin found.0 found.1.1)
  where
    begin : (vs : ValueTrees) → each (fits_inside f) vs ≡ true → Starts r d (first_of (stripes_items f r d k vs))
    begin no_values a = starts_none r d _ (nones_first (leaves f) r d (has_leaf f valid))
    begin (item u vs) a = starts_weaker r d _ (items_start (fits_inside f) (leaves f) u vs (all_start f) (has_leaf f valid) (and_parts (fits_inside f u) (each (fits_inside f) vs) a).0 r d k)

-- nothing is left of the first column: no value fits there
pub nothing_left : (f : Field) → IsValid f → (r d k : ℕ) (old rests : Columns) → first_of old ≡ [] → HasLevels (Fit f) (stripes f r d k) k old rests → ⊥
nothing_left f valid r d k old rests none w =
    let s : Starts r d [] = subst (Starts r d) none
    (starts_there (stripes f r d k w.value) w.whole rests old r d (subst (λ n. 0 < n) (sym (length-map (leaves f) (λ (l : Leaf). stripe_as (repetition_of f) (stripe l.steps) w.value r d k))) (has_leaf f valid)) w.front w.alike
    (field_starts f (repetition_of f) refl valid w.value w.fits r d k)) in
    s

pub faulty_nothing : (f : Field) → IsValid f → (r d k : ℕ) (old : Columns) (e : Refusal) → NoneLeft (first_of old) e → IsFaulty (Fit f) (stripes f r d k) k (wants f d) old e
faulty_nothing f valid r d k old e h = tells_more _ _ _ _ (λ none rests w. nothing_left f valid r d k old rests none w) (λ h. absurd h) e h

-- neither REQUIRED nor REPEATED
pub optional_is : (x : Repetition) → (x ≡ Required → ⊥) → (x ≡ Repeated → ⊥) → x ≡ Optional
optional_is Required a b = absurd (a refl)
optional_is Optional a b = refl
optional_is Repeated a b = absurd (b refl)

pub other_missing : (x : Repetition) → (x ≡ Repeated → ⊥) → missing_value x ≡ null
other_missing Required a = refl
other_missing Optional a = refl
other_missing Repeated a = absurd (a refl)
