-- A group by its members, and a leaf by its column.
use Rattle.std.proofs.Common.{ℕ, suc, ◌≡◌, ◌+◌, ◌<◌, ◌⊎◌, true, List, [], ◌∷◌, ◌++◌, map, length, get_or, refl, ap, sym, subst, ◌∙◌, arith, Some, None, Option, inl, inr}
use Rattle.std.proofs.lemmas.List.{map-append}
use Rattle.std.proofs.lemmas.Simd.{map-map}
use Rattle.std.proofs.lemmas.Bool.{and_parts, false≢true}
use Rattle.bits.specs.declared.refusal.Refusal.{Refusal}
use Rattle.schema.specs.declared.value.Repetition.{Repetition}
use Rattle.schema.specs.declared.value.Repetition.TheVariants.{Optional}
use Rattle.schema.specs.declared.annotation.GroupAnnotation.{GroupAnnotation}
use Rattle.schema.specs.Annotations.{LeafType}
use Rattle.schema.specs.Values.{ValueTree, group, ValueTrees, no_values, value as item}
use Rattle.schema.specs.Shape.{Field, leaf, fields, Fields, no_fields, field, repetition_of}
use Rattle.schema.specs.Fits.{fits, fits_each, fits_inside, fits_leaf}
use Rattle.schema.specs.Stripe.{Entry, entry, Leaf, below, leaves, leaves_from, stripe, stripe_as, definitions, greatest_definition}
use Rattle.schema.proofs.LeafLaws.{when_group, when_optional}
use Rattle.schema.proofs.Determined.{At, At-first, At-next, At-whole}
use Rattle.assemble.specs.Columns.{Columns, AreAlike, Want, AllSuit, Fronts, Suits}
use Rattle.assemble.specs.inner.Fronts.{stripes, stripes_inside, stripes_each, wants_inside, wants_each, wants, Fit, FitInside, FitEach}
use Rattle.assemble.specs.inner.ReadValues.{HasLevels, IsRead, IsFaulty}
use Rattle.assemble.specs.Sources.{Begins}
use Rattle.assemble.specs.inner.Steps.{IsLeafFaulty, IsOptionalFaulty}
use Rattle.assemble.proofs.Fronts.{alike_parts, fronts_alike}
use Rattle.assemble.proofs.Told.{tells_more}
use Rattle.assemble.proofs.Skipping.{begins_alike}
use Rattle.std.specs.List.{AllByRecursion}
use Rattle.assemble.proofs.Readings.{levels_as, read_up, faulty_up, fits_by, stripes_as, present_stripes, wants_as}

pub group_stripes : (fs : Fields) (i : ℕ) (V : ValueTree) (vs : ValueTrees) → fits_each fs vs ≡ true → At i V vs → (r d k : ℕ) → map (λ (l : Leaf). stripe l.steps V r d k) (leaves_from i fs) ≡ stripes_each fs r d k vs
group_stripes no_fields i V vs h at r d k = refl
group_stripes (field f fs) i V no_values h at r d k = absurd (false≢true h)
group_stripes (field f fs) i V (item v vs) h at r d k =
    let parts = and_parts (fits f v) (fits_each fs vs) h in
    let g : Leaf → List Entry = λ (l : Leaf). stripe l.steps V r d k in
    map-append g (map (below i f) (leaves f)) (leaves_from (suc i) fs)
    ∙ ap (λ t. t ++ map g (leaves_from (suc i) fs)) (map-map g (below i f) (leaves f))
    ∙ ap (λ u. map (λ (l : Leaf). stripe_as (repetition_of f) (stripe l.steps) u r d k) (leaves f) ++ map g (leaves_from (suc i) fs)) (At-first i V v vs at)
    ∙ ap (λ t. map (λ (l : Leaf). stripe_as (repetition_of f) (stripe l.steps) v r d k) (leaves f) ++ t) (group_stripes fs (suc i) V vs parts.1 (At-next i V v vs at) r d k)

pub group_wants : (fs : Fields) (i d : ℕ) → map (λ (l : Leaf). let w : Want = record { full = d + greatest_definition l.steps; leaf_type = l.leaf_type } in w) (leaves_from i fs) ≡ wants_each fs d
group_wants no_fields i d = refl
group_wants (field f fs) i d =
    let g : Leaf → Want = λ (l : Leaf). record { full = d + greatest_definition l.steps; leaf_type = l.leaf_type } in
    map-append g (map (below i f) (leaves f)) (leaves_from (suc i) fs)
    ∙ ap (λ t. t ++ map g (leaves_from (suc i) fs)) (map-map g (below i f) (leaves f))
    ∙ ap (λ t. wants f d ++ t) (group_wants fs (suc i) d)

module _ (n : List ℕ) (x : Repetition) (a : Option GroupAnnotation) (fs : Fields) (r d k : ℕ) where
  abbrev F : Field
  F = fields n x a fs

  group_levels : (old rests : Columns) → HasLevels (FitInside F) (stripes_inside F r d k) k old rests → HasLevels (FitEach fs) (stripes_each fs r d k) k old rests
  group_levels old rests w =
      let found = when_group w.value (fits_each fs) w.fits in
      levels_as (FitEach fs) (stripes_each fs r d k) (FitInside F) (stripes_inside F r d k) k old rests w found.0 found.1.1
      (ap (stripes_inside F r d k) found.1.0 ∙ group_stripes fs 0 (group found.0) found.0 found.1.1 (At-whole found.0) r d k)

  pub read_group : (old new : Columns) (vs : ValueTrees) → IsRead (FitEach fs) (stripes_each fs r d k) k old new vs → IsRead (FitInside F) (stripes_inside F r d k) k old new (group vs)
  read_group old new vs =
      read_up (FitEach fs) (stripes_each fs r d k) (FitInside F) (stripes_inside F r d k) k old new vs (group vs) (λ h. h) (λ h. group_stripes fs 0 (group vs) vs h (At-whole vs) r d k) (group_levels old)

  pub faulty_group : (old : Columns) (e : Refusal) → IsFaulty (FitEach fs) (stripes_each fs r d k) k (wants_each fs d) old e → IsFaulty (FitInside F) (stripes_inside F r d k) k (wants_inside F d) old e
  faulty_group old e =
      faulty_up (FitEach fs) (stripes_each fs r d k) k (wants_each fs d) (FitInside F) (stripes_inside F r d k) k (wants_inside F d) old old e (λ rests w. (rests, group_levels old rests w))
      (λ s. subst (λ ws. AllSuit ws old) (group_wants fs 0 d) s)

module _ (n : List ℕ) (x : Repetition) (t : LeafType) (r d k : ℕ) where
  abbrev L : Field
  L = leaf n x t

  abbrev P : ValueTree → Type 0
  P v = fits_leaf t v ≡ true

  abbrev S : ValueTree → Columns
  S v = entry r d (Some v) ∷ []

  -- the leaf's value is taken off the first column
  pub read_leaf_at : (old new : Columns) (v : ValueTree) → P v → Fronts (S v) old new → IsRead (FitInside L) (stripes_inside L r d k) k old new v
  read_leaf_at old new v fit front = record {
    fits = fit;
    front = front;
    alone = λ rests w. fronts_alike (S v) (S w.value) old new w.whole rests refl front w.front w.alike;
  }

  pub faulty_leaf_at : (old : Columns) → 0 < length old → (e : Refusal) → IsLeafFaulty r d t (get_or old 0 []) e → IsFaulty (FitInside L) (stripes_inside L r d k) k (wants_inside L d) old e
  faulty_leaf_at [] lt e h = absurd (omega (arith, lt))
  faulty_leaf_at (o ∷ old) lt e h = tells_more _ _ _ _
      (λ none rests w. begin none w.value w.whole rests w.front w.alike)
      (λ none s. none (let same : d + 0 ≡ d = omega arith in subst (λ m. AllByRecursion (Suits (record { full = m; leaf_type = t })) o) same s.0)) e h
    where
      begin : (Begins o r d → ⊥) → (v : ValueTree) (whole rests : Columns) → Fronts (S v) whole rests → AreAlike whole (o ∷ old) → ⊥
      begin none v [] rests h g = h
      begin none v (x ∷ whole) [] h g = h
      begin none v (x ∷ whole) (q ∷ rests) h g = none (begins_alike x o q r d (Some v) (alike_parts x o whole old g).0 h.0)

-- the first column begins as its stripe does
begins_first : (r d : ℕ) (v : Option ValueTree) (o : List Entry) (old whole rests : Columns) → Fronts (entry r d v ∷ []) whole rests → AreAlike whole (o ∷ old) → Begins o r d
begins_first r d v o old [] rests h g = absurd h
begins_first r d v o old (w ∷ whole) [] h g = absurd h
begins_first r d v o old (w ∷ whole) (q ∷ rests) h g = begins_alike w o q r d v (alike_parts w o whole old g).0 h.0

module _ (n : List ℕ) (x : Repetition) (t : LeafType) (is : x ≡ Optional) (r d k : ℕ) where
  abbrev O : Field
  O = leaf n x t

  -- a null or a value begins the first column
  begins_either : (o : List Entry) (old rests : Columns) → HasLevels (Fit O) (stripes O r d k) k (o ∷ old) rests → Begins o r d ⊎ Begins o r (d + 1)
  begins_either o old rests w =
      let fitted = sym (fits_by O Optional is w.value) ∙ w.fits in
      elim (when_optional w.value) [
        | inl same ↦ inl (begins_first r d None o old w.whole rests (subst (λ s. Fronts s w.whole rests) (stripes_as O Optional is r d k w.value ∙ ap (λ v. stripe_as Optional (stripe []) v r d k ∷ []) same) w.front) w.alike)
        | inr p ↦ inr (begins_first r (d + 1) (Some w.value) o old w.whole rests (subst (λ s. Fronts s w.whole rests) (present_stripes O is r d k w.value (sym (p.1 (fits_inside O)) ∙ fitted)) w.front) w.alike)
      ]

  pub faulty_optional_at : (old : Columns) → 0 < length old → (e : Refusal) → IsOptionalFaulty r d t (get_or old 0 []) e → IsFaulty (Fit O) (stripes O r d k) k (wants O d) old e
  faulty_optional_at [] lt e h = absurd (omega (arith, lt))
  faulty_optional_at (o ∷ old) lt e h = tells_more _ _ _ _
      (λ none rests w. none (begins_either o old rests w))
      (λ none s. none (
      let all = subst (λ ws. AllSuit ws (o ∷ old)) (wants_as O d 1 (ap definitions is)) s in
      let same : d + 1 + 0 ≡ d + 1 = omega arith in
      subst (λ m. AllByRecursion (Suits (record { full = m; leaf_type = t })) o) same all.0)) e h
