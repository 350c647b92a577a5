-- The items of a list, one by one.
use Rattle.std.proofs.Common.{ℕ, suc, ◌≡◌, ◌+◌, ◌<◌, true, false, Bool, List, [], ◌∷◌, ◌++◌, map, length, refl, ap, sym, subst, ◌∙◌, arith, add-one, append_assoc}
use Rattle.std.specs.List.{AllByRecursion}
use Rattle.std.proofs.lemmas.List.{append-nil, length-map}
use Rattle.std.proofs.lemmas.Bool.{and_parts}
use Rattle.bits.specs.declared.refusal.Refusal.{Refusal}
use Rattle.schema.specs.declared.value.Value.{Value}
use Rattle.schema.specs.Values.{ValueTree, ValueTrees, no_values, value as item, each, view, views}
use Rattle.schema.specs.Shape.{Field}
use Rattle.schema.specs.Fits.{fits_inside}
use Rattle.schema.specs.Stripe.{Entry, Leaf, leaves, stripe, Striping, list_items, later_items}
use Rattle.schema.specs.Law.{IsValid}
use Rattle.schema.proofs.LeafLaws.{Starts}
use Rattle.assemble.specs.Columns.{Columns, level, AreAlike, Fronts}
use Rattle.assemble.specs.inner.Building.{snoc}
use Rattle.assemble.specs.inner.Fronts.{Ends, AreEnds, stripes_inside, stripes_items, stripes_later, wants_inside, FitInside, FitItems, FitLater}
use Rattle.assemble.specs.inner.Steps.{first_of, HasItem}
use Rattle.assemble.specs.inner.ReadValues.{HasLevels, IsRead, IsFaulty}
use Rattle.assemble.proofs.Fronts.{fronts_then, fronts_cut, put, suit_front}
use Rattle.assemble.proofs.Starting.{StartsAt, all_start, has_leaf}
use Rattle.assemble.proofs.Readings.{map_same, starts_there, first_starts, faulty_up}

pub views-push : (vs : List Value) (v : Value) → views (vs ++ v ∷ []) ≡ snoc (views vs) (view v)
views-push [] v = refl
views-push (u ∷ vs) v = ap (λ t. item (view u) t) (views-push vs v)

each_snoc : (p : ValueTree → Bool) (vs : ValueTrees) (v : ValueTree) → each p vs ≡ true → p v ≡ true → each p (snoc vs v) ≡ true
each_snoc p no_values v h g = rw g refl
each_snoc p (item u vs) v h g =
    let parts = and_parts (p u) (each p vs) h in
    rw (parts.0, each_snoc p vs v parts.1 g) refl

pub fit_snoc : (f : Field) (vs : ValueTrees) (v : ValueTree) → FitItems f vs → FitInside f v → FitItems f (snoc vs v)
fit_snoc f no_values v h g = absurd h
fit_snoc f (item u vs) v h g = each_snoc (fits_inside f) (item u vs) v h g

pub fit_one : (f : Field) (v : ValueTree) → FitInside f v → FitItems f (item v no_values)
fit_one f v h = rw h refl

later_snoc : (s : Striping) (vs : ValueTrees) (v : ValueTree) (d k : ℕ) → later_items s (snoc vs v) d k ≡ later_items s vs d k ++ s v k d k
later_snoc s no_values v d k = append-nil (s v k d k)
later_snoc s (item u vs) v d k = ap (λ t. s u k d k ++ t) (later_snoc s vs v d k) ∙ sym (append_assoc (s u k d k) (later_items s vs d k) (s v k d k))

items_snoc : (f : Field) (s : Striping) (vs : ValueTrees) (v : ValueTree) (r d k : ℕ) → FitItems f vs → list_items s (snoc vs v) r d k ≡ list_items s vs r d k ++ s v (suc k) (suc d) (suc k)
items_snoc f s no_values v r d k h = absurd h
items_snoc f s (item u vs) v r d k h = ap (λ t. s u r (suc d) (suc k) ++ t) (later_snoc s vs v (suc d) (suc k)) ∙ sym (append_assoc (s u r (suc d) (suc k)) (later_items s vs (suc d) (suc k)) (s v (suc k) (suc d) (suc k)))

-- what comes after an item
ends_later : (P : ValueTree → Bool) (l : Leaf) → StartsAt P l → (vs : ValueTrees) → each P vs ≡ true → (d k : ℕ) (q : List Entry) → Ends k q → Ends (suc k) (later_items (stripe l.steps) vs d (suc k) ++ q)
ends_later P l s no_values h d k [] e = tt
ends_later P l s no_values h d k (x ∷ q) e = omega (arith, e)
ends_later P l s (item v vs) h d k q e = begin (stripe l.steps v (suc k) d (suc k)) (s v (and_parts (P v) (each P vs) h).0 (suc k) d (suc k))
  where
    begin : (xs : List Entry) → Starts (suc k) d xs → Ends (suc k) ((xs ++ later_items (stripe l.steps) vs d (suc k)) ++ q)
    begin [] s = absurd s
    begin (x ∷ xs) s = omega (arith, s.0)

later_ends : (P : ValueTree → Bool) (ls : List Leaf) → AllByRecursion (StartsAt P) ls → (vs : ValueTrees) → each P vs ≡ true → (d k : ℕ) (f g : Leaf → List Entry) (rests : Columns) → AreEnds k (map f ls) rests
    → AreEnds (suc k) (map g ls) (put (map (λ (l : Leaf). later_items (stripe l.steps) vs d (suc k)) ls) rests)
later_ends P [] a vs h d k f g rests e = tt
later_ends P (l ∷ ls) a vs h d k f g [] e = tt
later_ends P (l ∷ ls) a vs h d k f g (q ∷ rests) e = (ends_later P l a.0 vs h d k q e.0, later_ends P ls a.1 vs h d k f g rests e.1)

fronts_nils : (ls : List Leaf) (old new : Columns) → Fronts (map (λ (l : Leaf). let e : List Entry = [] in e) ls) old new → old ≡ new
fronts_nils [] old new h = h
fronts_nils (l ∷ ls) [] new h = absurd h
fronts_nils (l ∷ ls) (o ∷ old) [] h = absurd h
fronts_nils (l ∷ ls) (o ∷ old) (n ∷ new) h = ap (λ t. t ∷ old) h.0 ∙ ap (λ t. n ∷ t) (fronts_nils ls old new h.1)

-- some items are read
pub record SoFar (f : Field) (r d k : ℕ) (old now : Columns) (vs : ValueTrees) : Type 0 where
  pub fits : FitItems f vs
  pub front : Fronts (stripes_items f r d k vs) old now
  pub alone : (rests : Columns) → HasLevels (FitItems f) (stripes_items f r d k) k old rests → HasLevels (FitLater f) (stripes_later f (suc d) (suc k)) k now rests

-- a definition level and an own level of one more
pub one_more : (P : ℕ → ℕ → Type 0) (d k : ℕ) → P (d + 1) (k + 1) → P (suc d) (suc k)
one_more P d k h = subst (λ n. P (suc d) n) (add-one k) (subst (λ n. P n (k + 1)) (add-one d) h)

-- an item, and the later ones after it
module _ (f : Field) (valid : IsValid f) (r d k : ℕ) where
  abbrev Inside : ℕ → ValueTree → Columns
  Inside q = stripes_inside f q (suc d) (suc k)

  -- columns that begin with items begin with one
  split_item : (q : ℕ) (old rests whole : Columns) (v : ValueTree) (vs : ValueTrees) → each (fits_inside f) (item v vs) ≡ true → AreAlike whole old
      → Fronts (map (λ (l : Leaf). stripe l.steps v q (suc d) (suc k) ++ later_items (stripe l.steps) vs (suc d) (suc k)) (leaves f)) whole rests → AreEnds k (Inside q v) rests
      → HasLevels (FitInside f) (Inside q) (suc k) old (put (stripes_later f (suc d) (suc k) vs) rests) × Fronts (stripes_later f (suc d) (suc k) vs) (put (stripes_later f (suc d) (suc k) vs) rests) rests
  split_item q old rests whole v vs h alike front ends =
      let parts = and_parts (fits_inside f v) (each (fits_inside f) vs) h in
      let cut = fronts_cut (λ (l : Leaf). stripe l.steps v q (suc d) (suc k)) (λ (l : Leaf). later_items (stripe l.steps) vs (suc d) (suc k)) (leaves f) whole rests front in (
        record {
          value = v;
          fits = parts.0;
          whole = whole;
          alike = alike;
          front = cut.0;
          ends = later_ends (fits_inside f) (leaves f) (all_start f) vs parts.1 (suc d) k (λ (l : Leaf). stripe l.steps v q (suc d) (suc k)) (λ (l : Leaf). stripe l.steps v q (suc d) (suc k)) rests ends;
        },
        cut.1,
      )

  same_ends : (g h : Leaf → List Entry) (ls : List Leaf) (rests : Columns) → AreEnds k (map g ls) rests → AreEnds k (map h ls) rests
  same_ends g h [] rests e = tt
  same_ends g h (l ∷ ls) [] e = tt
  same_ends g h (l ∷ ls) (q ∷ rests) e = (e.0, same_ends g h ls rests e.1)

  first_split : (old rests : Columns) → HasLevels (FitItems f) (stripes_items f r d k) k old rests
      → (vs : ValueTrees) × ((each (fits_inside f) vs ≡ true) × (AreEnds k (stripes_later f (suc d) (suc k) vs) rests × (HasLevels (FitInside f) (Inside r) (suc k) old (put (stripes_later f (suc d) (suc k) vs) rests) × Fronts (stripes_later f (suc d) (suc k) vs) (put (stripes_later f (suc d) (suc k) vs) rests) rests)))
  first_split old rests w = split w.value w.fits w.front w.ends
    where
      split : (vs : ValueTrees) → FitItems f vs → Fronts (stripes_items f r d k vs) w.whole rests → AreEnds k (stripes_items f r d k vs) rests
          → (vs : ValueTrees) × ((each (fits_inside f) vs ≡ true) × (AreEnds k (stripes_later f (suc d) (suc k) vs) rests × (HasLevels (FitInside f) (Inside r) (suc k) old (put (stripes_later f (suc d) (suc k) vs) rests) × Fronts (stripes_later f (suc d) (suc k) vs) (put (stripes_later f (suc d) (suc k) vs) rests) rests)))
      split no_values h front ends = absurd h
      split (item v vs) h front ends =
          (vs, ((and_parts (fits_inside f v) (each (fits_inside f) vs) h).1, (same_ends _ _ (leaves f) rests ends, split_item r old rests w.whole v vs h w.alike front (same_ends _ _ (leaves f) rests ends))))

  pub first_front : (old now : Columns) (v : ValueTree) → Fronts (Inside r v) old now → Fronts (stripes_items f r d k (item v no_values)) old now
  first_front old now v h = subst (λ s. Fronts s old now) (sym (map_same _ _ (leaves f) (λ (l : Leaf). append-nil (stripe l.steps v r (suc d) (suc k))))) h

  pub next_front : (old now new : Columns) (vs : ValueTrees) (v : ValueTree) → FitItems f vs → Fronts (stripes_items f r d k vs) old now → Fronts (Inside (suc k) v) now new → Fronts (stripes_items f r d k (snoc vs v)) old new
  next_front old now new vs v fit h g =
      subst (λ s. Fronts s old new) (sym (map_same _ _ (leaves f) (λ (l : Leaf). items_snoc f (stripe l.steps) vs v r d k fit)))
      (fronts_then (λ (l : Leaf). list_items (stripe l.steps) vs r d k) (λ (l : Leaf). stripe l.steps v (suc k) (suc d) (suc k)) (leaves f) old now new h g)

  pub first_item : (old now : Columns) (v : ValueTree) → IsRead (FitInside f) (Inside r) (suc k) old now v → SoFar f r d k old now (item v no_values)
  first_item old now v h = record {
    fits = rw h.fits refl;
    front = first_front old now v h.front;
    alone = λ rests w.
        let s = first_split old rests w in
        record { value = s.0; fits = s.1.0; whole = put (stripes_later f (suc d) (suc k) s.0) rests; alike = h.alone _ s.1.1.1.0; front = s.1.1.1.1; ends = s.1.1.0 };
  }

  pub first_faulty : (old : Columns) (e : Refusal) → IsFaulty (FitInside f) (Inside r) (suc k) (wants_inside f (suc d)) old e → IsFaulty (FitItems f) (stripes_items f r d k) k (wants_inside f (suc d)) old e
  first_faulty old e =
      faulty_up (FitInside f) (Inside r) (suc k) (wants_inside f (suc d)) (FitItems f) (stripes_items f r d k) k (wants_inside f (suc d)) old old e (λ rests w. let s = first_split old rests w in (put (stripes_later f (suc d) (suc k) s.0) rests, s.1.1.1.0)) (λ s. s)

  -- another item follows
  ends_first : (ls : List Leaf) → 0 < length ls → (g : Leaf → List Entry) (rests : Columns) → AreEnds k (map g ls) rests → Ends k (first_of rests)
  ends_first [] lt g rests e = absurd (omega (arith, lt))
  ends_first (l ∷ ls) lt g [] e = tt
  ends_first (l ∷ ls) lt g (q ∷ rests) e = e.0

  ended : (q o : List Entry) → map level q ≡ map level o → Ends k q → HasItem (suc k) o true → ⊥
  ended [] [] h e i = i
  ended [] (y ∷ o) h e i = cc
  ended (x ∷ q) [] h e i = i
  ended (x ∷ q) (y ∷ o) h e i =
      let first : level x ≡ level y = cc in
      let same : x.repetition ≡ y.repetition = ap (λ p. p.0) first in
      omega (arith, e, i, same)

  head_of : (xs ys : Columns) → AreAlike xs ys → map level (first_of xs) ≡ map level (first_of ys)
  head_of [] [] h = refl
  head_of [] (y ∷ ys) h = cc
  head_of (x ∷ xs) [] h = cc
  head_of (x ∷ xs) (y ∷ ys) h = cc

  next_split : (now rests : Columns) → HasItem (suc k) (first_of now) true → HasLevels (FitLater f) (stripes_later f (suc d) (suc k)) k now rests
      → (vs : ValueTrees) × ((each (fits_inside f) vs ≡ true) × (AreEnds k (stripes_later f (suc d) (suc k) vs) rests × (HasLevels (FitInside f) (Inside (suc k)) (suc k) now (put (stripes_later f (suc d) (suc k) vs) rests) × Fronts (stripes_later f (suc d) (suc k) vs) (put (stripes_later f (suc d) (suc k) vs) rests) rests)))
  next_split now rests more w = split w.value w.fits w.front w.ends
    where
      split : (vs : ValueTrees) → FitLater f vs → Fronts (stripes_later f (suc d) (suc k) vs) w.whole rests → AreEnds k (stripes_later f (suc d) (suc k) vs) rests
          → (vs : ValueTrees) × ((each (fits_inside f) vs ≡ true) × (AreEnds k (stripes_later f (suc d) (suc k) vs) rests × (HasLevels (FitInside f) (Inside (suc k)) (suc k) now (put (stripes_later f (suc d) (suc k) vs) rests) × Fronts (stripes_later f (suc d) (suc k) vs) (put (stripes_later f (suc d) (suc k) vs) rests) rests)))
      split no_values h front ends =
          absurd (ended (first_of rests) (first_of now) (subst (λ c. map level (first_of c) ≡ map level (first_of now)) (fronts_nils (leaves f) w.whole rests front) (head_of w.whole now w.alike)) (ends_first (leaves f) (has_leaf f valid) _ rests ends) more)
      split (item v vs) h front ends =
          (vs, ((and_parts (fits_inside f v) (each (fits_inside f) vs) h).1, (same_ends _ _ (leaves f) rests ends, split_item (suc k) now rests w.whole v vs h w.alike front (same_ends _ _ (leaves f) rests ends))))

  pub next_item : (old now new : Columns) (vs : ValueTrees) (v : ValueTree) → HasItem (suc k) (first_of now) true → SoFar f r d k old now vs → IsRead (FitInside f) (Inside (suc k)) (suc k) now new v → SoFar f r d k old new (snoc vs v)
  next_item old now new vs v more so h = record {
    fits = fit_snoc f vs v so.fits h.fits;
    front = next_front old now new vs v so.fits so.front h.front;
    alone = λ rests w.
        let s = next_split now rests more (so.alone rests w) in
        record { value = s.0; fits = s.1.0; whole = put (stripes_later f (suc d) (suc k) s.0) rests; alike = h.alone _ s.1.1.1.0; front = s.1.1.1.1; ends = s.1.1.0 };
  }

  pub next_faulty : (old now : Columns) (vs : ValueTrees) (e : Refusal) → HasItem (suc k) (first_of now) true → SoFar f r d k old now vs
      → IsFaulty (FitInside f) (Inside (suc k)) (suc k) (wants_inside f (suc d)) now e → IsFaulty (FitItems f) (stripes_items f r d k) k (wants_inside f (suc d)) old e
  next_faulty old now vs e more so =
      faulty_up (FitInside f) (Inside (suc k)) (suc k) (wants_inside f (suc d)) (FitItems f) (stripes_items f r d k) k (wants_inside f (suc d)) now old e
      (λ rests w. let s = next_split now rests more (so.alone rests w) in (put (stripes_later f (suc d) (suc k) s.0) rests, s.1.1.1.0))
      (λ s. suit_front (stripes_items f r d k vs) old now (wants_inside f (suc d)) so.front s)

  -- no item follows
  none_follows : (o : List Entry) → Starts (suc k) (suc d) o → HasItem (suc k) o false → ⊥
  none_follows [] s i = s
  none_follows (x ∷ o) s i = omega (arith, s.0, i)

  pub last_item : (old now : Columns) (vs : ValueTrees) → HasItem (suc k) (first_of now) false → SoFar f r d k old now vs → IsRead (FitItems f) (stripes_items f r d k) k old now vs
  last_item old now vs none so = record {
    fits = so.fits;
    front = so.front;
    alone = λ rests w. let l = so.alone rests w in last rests l l.value l.fits l.front;
  }
    where
      last : (rests : Columns) (w : HasLevels (FitLater f) (stripes_later f (suc d) (suc k)) k now rests) (vs : ValueTrees) → FitLater f vs → Fronts (stripes_later f (suc d) (suc k) vs) w.whole rests → AreAlike rests now
      last rests w no_values h front = subst (λ c. AreAlike c now) (fronts_nils (leaves f) w.whole rests front) w.alike
      last rests w (item v vs) h front =
          let parts = and_parts (fits_inside f v) (each (fits_inside f) vs) h in
          let cut = fronts_cut (λ (l : Leaf). stripe l.steps v (suc k) (suc d) (suc k)) (λ (l : Leaf). later_items (stripe l.steps) vs (suc d) (suc k)) (leaves f) w.whole rests front in
          absurd (none_follows (first_of now)
          (starts_there (Inside (suc k) v) w.whole _ now (suc k) (suc d) (subst (λ n. 0 < n) (sym (length-map (leaves f) (λ (l : Leaf). stripe l.steps v (suc k) (suc d) (suc k)))) (has_leaf f valid)) cut.0 w.alike
          (first_starts (fits_inside f) (leaves f) v (all_start f) (has_leaf f valid) parts.0 (suc k) (suc d) (suc k))) none)
