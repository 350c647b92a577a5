-- Values of one kind that are taken off sources are values of another.
use Rattle.std.proofs.Common.{ℕ, suc, ◌≡◌, ◌+◌, ◌-◌, ◌<◌, ◌≤◌, List, [], ◌∷◌, ◌++◌, length, take, drop, get_or, ap, sym, subst, ◌∙◌, arith, refl, true, false, Some, None, Option, inl, inr}
use Rattle.std.proofs.Math.ListN.{set}
use Rattle.std.proofs.lemmas.List.{length-take-le, length-append, take-append-drop}
use borrow.Rule.Slice.PartMut.{put_mid, mid_of}
use Rattle.schema.specs.declared.value.Repetition.{Repetition}
use Rattle.schema.specs.declared.value.Repetition.TheVariants.{Required, Optional, Repeated}
use Rattle.schema.specs.declared.annotation.GroupAnnotation.{GroupAnnotation}
use Rattle.schema.specs.Annotations.{LeafType}
use Rattle.schema.specs.Values.{ValueTree, ValueTrees, group, list, no_values, value as item}
use Rattle.schema.specs.Shape.{Field, Fields, leaf, fields, field, repetition_of}
use Rattle.schema.specs.Fits.{fits_leaf}
use Rattle.schema.specs.Stripe.{Entry, entry}
use Rattle.schema.specs.Law.{IsValid}
use Rattle.schema.specs.Reading.{count_leaves}
use Rattle.schema.proofs.Determined.{At-whole}
use Rattle.assemble.specs.Sources.{Precede}
use Rattle.assemble.specs.Columns.{Columns, Fronts}
use Rattle.assemble.specs.Standing.{AllStand, AllSame, Onward, Backward}
use Rattle.assemble.specs.inner.Building.{snoc}
use Rattle.assemble.specs.inner.Fronts.{stripes, stripes_inside, stripes_items, stripes_each, nones, Fit, FitInside, FitItems, FitEach}
use Rattle.assemble.specs.inner.ReadValues.{IsRead, Reads}
use Rattle.assemble.specs.inner.Steps.{missing_value, ReadsOptional, IsMissing, HasItem, first_of}
use Rattle.assemble.proofs.Standing.{At, same_self, stand_on, stand_back, set_on, set_back, part_stands, put_stands, put_part, put_back, put_long}
use Rattle.assemble.proofs.Readings.{read_required, read_present, present_fits, present_stripes, read_list, all_fit, fits_by, stripes_as, read_missing, missing_fits, missing_stripes}
use Rattle.assemble.proofs.Groups.{group_stripes, read_group, read_leaf_at}
use Rattle.assemble.proofs.Items as items
use Rattle.assemble.proofs.Each as each
use Rattle.assemble.proofs.Each.{drop_front, take_front}

module _ {A : Type 0} (S : A → List Entry → Type 0) where
  pub reads_up : {V W : Type 0} (P : V → Type 0) (St : V → Columns) (j : ℕ) (Q : W → Type 0) (Tt : W → Columns) (k : ℕ) (old mid new : List A) (x : V) (y : W)
      → AllSame S old mid → (P x → Q y) → (P x → Tt y ≡ St x) → ((cs ds : Columns) → AllStand S old cs → IsRead P St j cs ds x → IsRead Q Tt k cs ds y) → Reads S P St j mid new x → Reads S Q Tt k old new y
  reads_up P St j Q Tt k old mid new x y same fit st up h = record {
    fits = fit h.fits;
    onward = λ cs s. let w = h.onward cs (stand_on S old mid cs same s) in (w.0, (w.1.0, up cs w.0 s w.1.1));
    backward = λ ds s. let w = h.backward ds s in (w.0, (stand_back S old mid w.0 same w.1.0, subst (λ t. Fronts t w.0 ds) (sym (st h.fits)) w.1.1));
  }

  pub reads_required : (f : Field) → repetition_of f ≡ Required → (r d k : ℕ) (old new : List A) (v : ValueTree) → AllSame S old old → Reads S (FitInside f) (stripes_inside f r d k) k old new v → Reads S (Fit f) (stripes f r d k) k old new v
  reads_required f is r d k old new v same =
      reads_up (FitInside f) (stripes_inside f r d k) k (Fit f) (stripes f r d k) k old old new v v same (λ h. fits_by f Required is v ∙ h) (λ h. stripes_as f Required is r d k v) (λ cs ds s h. read_required f is r d k cs ds v h)

  pub reads_present : (f : Field) → repetition_of f ≡ Optional → IsValid f → (r d k : ℕ) (old mid new : List A) (v : ValueTree) → AllSame S old mid → ((cs : Columns) → AllStand S old cs → IsMissing d (first_of cs) false)
      → Reads S (FitInside f) (stripes_inside f r (d + 1) k) k mid new v → Reads S (Fit f) (stripes f r d k) k old new v
  reads_present f is valid r d k old mid new v same there =
      reads_up (FitInside f) (stripes_inside f r (d + 1) k) k (Fit f) (stripes f r d k) k old mid new v v same (present_fits f is v) (present_stripes f is r d k v) (λ cs ds s h. read_present f is valid r d k cs ds v (there cs s) h)

  pub reads_list : (f : Field) → repetition_of f ≡ Repeated → IsValid f → (r d k : ℕ) (old mid new : List A) (vs : ValueTrees) → AllSame S old mid → ((cs : Columns) → AllStand S old cs → IsMissing d (first_of cs) false)
      → Reads S (FitItems f) (stripes_items f r d k) k mid new vs → Reads S (Fit f) (stripes f r d k) k old new (list vs)
  reads_list f is valid r d k old mid new vs same there =
      reads_up (FitItems f) (stripes_items f r d k) k (Fit f) (stripes f r d k) k old mid new vs (list vs) same (λ h. fits_by f Repeated is (list vs) ∙ all_fit f vs h) (λ h. stripes_as f Repeated is r d k (list vs)) (λ cs ds s h. read_list f is valid r d k cs ds vs (there cs s) h)

  pub reads_group : (n : List ℕ) (x : Repetition) (a : Option GroupAnnotation) (fs : Fields) (r d k : ℕ) (old new : List A) (vs : ValueTrees) → AllSame S old old → Reads S (FitEach fs) (stripes_each fs r d k) k old new vs → Reads S (FitInside (fields n x a fs)) (stripes_inside (fields n x a fs) r d k) k old new (group vs)
  reads_group n x a fs r d k old new vs same =
      reads_up (FitEach fs) (stripes_each fs r d k) k (FitInside (fields n x a fs)) (stripes_inside (fields n x a fs) r d k) k old old new vs (group vs) same (λ h. h) (λ h. group_stripes fs 0 (group vs) vs h (At-whole vs) r d k) (λ cs ds s h. read_group n x a fs r d k cs ds vs h)

  -- a null, or an empty list
  pub reads_missing : (f : Field) (x : Repetition) → repetition_of f ≡ x → (x ≡ Required → ⊥) → IsValid f → (r d k n : ℕ) (old mid new : List A) → n ≡ count_leaves f → AllSame S old mid → ((cs : Columns) → AllStand S old cs → IsMissing d (first_of cs) true)
      → Onward S mid new (Fronts (nones r d n)) → Backward S mid new (Fronts (nones r d n)) → Reads S (Fit f) (stripes f r d k) k old new (missing_value x)
  reads_missing f x is ne valid r d k n old mid new count same missing on back = record {
    fits = missing_fits f x is ne;
    onward = λ cs s. let w = on cs (stand_on S old mid cs same s) in (w.0, (w.1.0, read_missing f x is ne valid r d k cs w.0 (missing cs s) (subst (λ m. Fronts (nones r d m) cs w.0) count w.1.1)));
    backward = λ ds s.
        let w = back ds s in
        (w.0, (stand_back S old mid w.0 same w.1.0, subst (λ t. Fronts t w.0 ds) (sym (missing_stripes f x is ne r d k)) (subst (λ m. Fronts (nones r d m) w.0 ds) count w.1.1)));
  }

  at_first : (es : List Entry) (cs ds : Columns) → At 0 es cs ds → Fronts (es ∷ []) cs ds
  at_first es [] ds a = absurd a
  at_first es (c ∷ cs) [] a = absurd a
  at_first es (c ∷ cs) (d ∷ ds) a = a

  pub reads_leaf : (n : List ℕ) (x : Repetition) (t : LeafType) (r d k : ℕ) (xs : List A) (s y : A) (v : ValueTree) → 0 < length xs → fits_leaf t v ≡ true → Precede (entry r d (Some v)) (S (get_or xs 0 s)) (S y)
      → Reads S (FitInside (leaf n x t)) (stripes_inside (leaf n x t) r d k) k xs (set xs 0 y) v
  reads_leaf n x t r d k xs s y v lt fit first = record {
    fits = fit;
    onward = λ cs stand. let w = set_on S (entry r d (Some v)) xs 0 s y lt first cs stand in (w.0, (w.1.0, read_leaf_at n x t r d k cs w.0 v fit (at_first (entry r d (Some v)) cs w.0 w.1.1)));
    backward = λ ds stand. let w = set_back S (entry r d (Some v)) xs 0 s y lt first ds stand in (w.0, (w.1.0, at_first (entry r d (Some v)) w.0 ds w.1.1));
  }

  null_missing : (r d : ℕ) (cs ds : Columns) → At 0 (entry r d None) cs ds → IsMissing d (first_of cs) true
  null_missing r d [] ds a = absurd a
  null_missing r d (c ∷ cs) [] a = absurd a
  null_missing r d (c ∷ cs) (e ∷ ds) a = subst (λ o. IsMissing d o true) (sym a.0) (omega arith)

  value_there : (r d : ℕ) (v : ValueTree) (cs ds : Columns) → At 0 (entry r (d + 1) (Some v)) cs ds → IsMissing d (first_of cs) false
  value_there r d v [] ds a = absurd a
  value_there r d v (c ∷ cs) [] a = absurd a
  value_there r d v (c ∷ cs) (e ∷ ds) a = subst (λ o. IsMissing d o false) (sym a.0) (omega arith)

  -- the value of an OPTIONAL leaf, or a null
  pub reads_optional : (n : List ℕ) (x : Repetition) (t : LeafType) → x ≡ Optional → IsValid (leaf n x t) → (r d k : ℕ) (xs : List A) (s y : A) (v : ValueTree) → 0 < length xs → ReadsOptional t r d (S (get_or xs 0 s)) (S y) v
      → Reads S (Fit (leaf n x t)) (stripes (leaf n x t) r d k) k xs (set xs 0 y) v
  reads_optional n x t is valid r d k xs s y v lt (inl h) =
      reads_present (leaf n x t) is valid r d k xs xs (set xs 0 y) v (same_self S xs) (λ cs stand. let w = set_on S (entry r (d + 1) (Some v)) xs 0 s y lt h.first cs stand in value_there r d v cs w.0 w.1.1)
      (reads_leaf n x t r (d + 1) k xs s y v lt h.fits h.first)
  reads_optional n x t is valid r d k xs s y v lt (inr h) =
      subst (Reads S (Fit (leaf n x t)) (stripes (leaf n x t) r d k) k xs (set xs 0 y)) (sym h.0)
      (reads_missing (leaf n x t) Optional is (λ e. cc) valid r d k 1 xs xs (set xs 0 y) refl (same_self S xs) (λ cs stand. let w = set_on S (entry r d None) xs 0 s y lt h.1 cs stand in null_missing r d cs w.0 w.1.1)
      (λ cs stand. let w = set_on S (entry r d None) xs 0 s y lt h.1 cs stand in (w.0, (w.1.0, at_first (entry r d None) cs w.0 w.1.1)))
      (λ ds stand. let w = set_back S (entry r d None) xs 0 s y lt h.1 ds stand in (w.0, (w.1.0, at_first (entry r d None) w.0 ds w.1.1))))

  -- the values of the first fields, and one more
  module _ (fs : Fields) (f : Field) (gs : Fields) (r d k : ℕ) (old xs ys : List A) (used : ℕ) (vs : ValueTrees) (v : ValueTree) (room : used ≤ length xs) where
    pub each_onward : Onward S old xs (λ b a. each.SoFar fs (field f gs) r d k b a used vs) → Reads S (Fit f) (stripes f r d k) k (mid_of used (length xs - used) xs) ys v
        → Onward S old (put_mid used (length xs - used) xs ys) (λ b a. each.SoFar fs gs r d k b a (used + count_leaves f) (snoc vs v))
    each_onward on h cs s =
        let w = on cs s in
        let u = h.onward (drop used w.0) (part_stands S used xs w.0 room w.1.0) in
        (take used w.0 ++ u.0, (put_stands S used xs ys w.0 u.0 room w.1.0 u.1.0, each.step fs f gs r d k cs w.0 u.0 used vs v w.1.1 u.1.1))

    pub each_backward : Backward S old xs (each.Whole fs (field f gs) r d k used vs) → Reads S (Fit f) (stripes f r d k) k (mid_of used (length xs - used) xs) ys v
        → Backward S old (put_mid used (length xs - used) xs ys) (each.Whole fs gs r d k (used + count_leaves f) (snoc vs v))
    each_backward back h ds s =
        let u = h.backward (drop used ds) (put_part S used xs ys ds room s) in
        let mid = take used ds ++ u.0 in
        let w = back mid (put_back S used xs ys ds u.0 room s u.1.0) in
        let sized : length (take used ds) ≡ used = length-take-le used ds (put_long S used xs ys ds room s) in
        let both = length-append (take used ds) u.0 in
        let cut : drop used mid ≡ u.0 = drop_front (take used ds) u.0 used sized in
        let kept : take used mid ≡ take used ds = take_front (take used ds) u.0 used sized in
        let whole = each.whole_step fs f gs r d k w.0 mid (drop used ds) used vs v (omega (arith, sized, both)) w.1.1 (subst (λ c. Fronts (stripes f r d k v) c (drop used ds)) (sym cut) u.1.1) in
        (w.0, (w.1.0, subst (each.Whole fs gs r d k (used + count_leaves f) (snoc vs v) w.0) (ap (λ t. t ++ drop used ds) kept ∙ take-append-drop used ds) whole))

  -- the items of a list
  module _ (f : Field) (valid : IsValid f) (r d k : ℕ) where
    abbrev Inside : ℕ → ValueTree → Columns
    Inside q = stripes_inside f q (suc d) (suc k)

    pub first_onward : (old new : List A) (v : ValueTree) → Reads S (FitInside f) (Inside r) (suc k) old new v → Onward S old new (λ b a. items.SoFar f r d k b a (item v no_values))
    first_onward old new v h cs s = let w = h.onward cs s in (w.0, (w.1.0, items.first_item f valid r d k cs w.0 v w.1.1))

    pub first_backward : (old new : List A) (v : ValueTree) → Reads S (FitInside f) (Inside r) (suc k) old new v → Backward S old new (Fronts (stripes_items f r d k (item v no_values)))
    first_backward old new v h ds s = let w = h.backward ds s in (w.0, (w.1.0, items.first_front f valid r d k w.0 ds v w.1.1))

    pub next_onward : (old xs mid new : List A) (vs : ValueTrees) (v : ValueTree) → AllSame S xs mid → ((cs : Columns) → AllStand S xs cs → HasItem (suc k) (first_of cs) true) → Onward S old xs (λ b a. items.SoFar f r d k b a vs)
        → Reads S (FitInside f) (Inside (suc k)) (suc k) mid new v → Onward S old new (λ b a. items.SoFar f r d k b a (snoc vs v))
    next_onward old xs mid new vs v same more on h cs s =
        let w = on cs s in
        let u = h.onward w.0 (stand_on S xs mid w.0 same w.1.0) in
        (u.0, (u.1.0, items.next_item f valid r d k cs w.0 u.0 vs v (more w.0 w.1.0) w.1.1 u.1.1))

    pub next_backward : (old xs mid new : List A) (vs : ValueTrees) (v : ValueTree) → AllSame S xs mid → FitItems f vs → Backward S old xs (Fronts (stripes_items f r d k vs))
        → Reads S (FitInside f) (Inside (suc k)) (suc k) mid new v → Backward S old new (Fronts (stripes_items f r d k (snoc vs v)))
    next_backward old xs mid new vs v same fit back h ds s =
        let u = h.backward ds s in
        let w = back u.0 (stand_back S xs mid u.0 same u.1.0) in
        (w.0, (w.1.0, items.next_front f valid r d k w.0 u.0 ds vs v fit w.1.1 u.1.1))

    pub reads_items : (old xs new : List A) (vs : ValueTrees) → AllSame S xs new → FitItems f vs → ((cs : Columns) → AllStand S xs cs → HasItem (suc k) (first_of cs) false) → Onward S old xs (λ b a. items.SoFar f r d k b a vs)
        → Backward S old xs (Fronts (stripes_items f r d k vs)) → Reads S (FitItems f) (stripes_items f r d k) k old new vs
    reads_items old xs new vs same fit none on back = record {
      fits = fit;
      onward = λ cs s. let w = on cs s in (w.0, (stand_on S xs new w.0 same w.1.0, items.last_item f valid r d k cs w.0 vs (none w.0 w.1.0) w.1.1));
      backward = λ ds s. back ds (stand_back S xs new ds same s);
    }
