-- The values of fields, one by one.
use Rattle.std.proofs.Common.{ℕ, zero, suc, ◌≡◌, ◌+◌, ◌≤◌, List, [], ◌∷◌, ◌++◌, map, length, take, drop, refl, ap, sym, subst, ◌∙◌, arith, append_assoc}
use Rattle.std.proofs.lemmas.List.{length-map, drop-drop, take-append-drop, length-take-le, take-map, drop-map as drop-mapped}
use Rattle.std.proofs.Math.Seq.{drop-append-add}
use Rattle.std.proofs.lemmas.Bool.{and_parts, false≢true}
use Rattle.bits.specs.declared.refusal.Refusal.{Refusal}
use Rattle.schema.specs.Values.{ValueTree, ValueTrees, no_values, value as item}
use Rattle.schema.specs.Shape.{Field, Fields, no_fields, field, repetition_of}
use Rattle.schema.specs.Fits.{fits, fits_each}
use Rattle.schema.specs.Stripe.{Leaf, leaves, stripe, stripe_as, definitions, greatest_definition}
use Rattle.schema.specs.Reading.{count_leaves, count_leaves_each}
use Rattle.assemble.specs.Columns.{Columns, level, AreAlike, AllSuit, Fronts}
use Rattle.assemble.specs.inner.Building.{snoc}
use Rattle.assemble.specs.inner.Fronts.{AreEnds, stripes, stripes_each, wants, wants_each, Fit, FitEach}
use Rattle.assemble.specs.inner.ReadValues.{HasLevels, IsRead, IsFaulty}
use Rattle.assemble.proofs.Fronts.{fronts_join, fronts_split, fronts_behind, fronts_length_new, alike_append, suit_split, ends_split}
use Rattle.schema.proofs.CutSteps.{count_is}
use Rattle.assemble.proofs.Readings.{faulty_up}

abbrev pub join : ValueTrees → ValueTrees → ValueTrees
join no_values ws = ws
join (item v vs) ws = item v (join vs ws)

pub join_snoc : (vs : ValueTrees) (v : ValueTree) (ws : ValueTrees) → join (snoc vs v) ws ≡ join vs (item v ws)
join_snoc no_values v ws = refl
join_snoc (item u vs) v ws = ap (λ t. item u t) (join_snoc vs v ws)

pub join_none : (vs : ValueTrees) → join vs no_values ≡ vs
join_none no_values = refl
join_none (item u vs) = ap (λ t. item u t) (join_none vs)

take_past : {A : Type 0} (xs ys : List A) (m n : ℕ) → m ≡ length xs + n → take m (xs ++ ys) ≡ xs ++ take n ys
take_past [] ys m n e = ap (λ i. take i ys) (omega (arith, e))
take_past (x ∷ xs) ys zero n e = absurd (omega (arith, e))
take_past (x ∷ xs) ys (suc m) n e = ap (λ t. x ∷ t) (take_past xs ys m n (omega (arith, e)))

take_parts : {A : Type 0} (m n : ℕ) (xs : List A) → m ≤ length xs → take (m + n) xs ≡ take m xs ++ take n (drop m xs)
take_parts m n xs le = ap (take (m + n)) (sym (take-append-drop m xs)) ∙ take_past (take m xs) (drop m xs) (m + n) n (let e = length-take-le m xs le in omega (arith, e))

pub drop_front : {A : Type 0} (xs ys : List A) (n : ℕ) → length xs ≡ n → drop n (xs ++ ys) ≡ ys
drop_front [] ys n e = ap (λ i. drop i ys) (sym e)
drop_front (x ∷ xs) ys zero e = absurd (omega (arith, e))
drop_front (x ∷ xs) ys (suc n) e = drop_front xs ys n (omega (arith, e))

pub take_front : {A : Type 0} (xs ys : List A) (n : ℕ) → length xs ≡ n → take n (xs ++ ys) ≡ xs
take_front [] ys n e = ap (λ i. take i ys) (sym e)
take_front (x ∷ xs) ys zero e = absurd (omega (arith, e))
take_front (x ∷ xs) ys (suc n) e = ap (λ t. x ∷ t) (take_front xs ys n (omega (arith, e)))

drop_past : {A : Type 0} (m n : ℕ) (xs ys : List A) → length xs ≡ m → drop (m + n) (xs ++ ys) ≡ drop n ys
drop_past m n xs ys e = ap (λ i. drop (i + n) (xs ++ ys)) (sym e) ∙ drop-append-add xs ys n

alike_take : (n : ℕ) (xs ys : Columns) → AreAlike xs ys → AreAlike (take n xs) (take n ys)
alike_take n xs ys h = sym (take-map (map level) n xs) ∙ ap (take n) h ∙ take-map (map level) n ys

alike_drop : (n : ℕ) (xs ys : Columns) → AreAlike xs ys → AreAlike (drop n xs) (drop n ys)
alike_drop n xs ys h = sym (drop-mapped (map level) n xs) ∙ ap (drop n) h ∙ drop-mapped (map level) n ys

pub size : (f : Field) (r d k : ℕ) (v : ValueTree) → length (stripes f r d k v) ≡ count_leaves f
size f r d k v = length-map (leaves f) (λ (l : Leaf). stripe_as (repetition_of f) (stripe l.steps) v r d k) ∙ sym (count_is f)

wants_size : (f : Field) (d : ℕ) → length (wants f d) ≡ count_leaves f
wants_size f d = length-map (leaves f) (λ (l : Leaf). record { full = d + (definitions (repetition_of f) + greatest_definition l.steps); leaf_type = l.leaf_type }) ∙ sym (count_is f)

-- a fitting value of fields is one of the first and one of the others
pub record Split (f : Field) (fs : Fields) (r d k : ℕ) (old rests : Columns) : Type 0 where
  pub behind : Columns
  pub first : HasLevels (Fit f) (stripes f r d k) k old (take (count_leaves f) rests ++ behind)
  pub value : ValueTrees
  pub fits : FitEach fs value
  pub front : Fronts (stripes_each fs r d k value) behind (drop (count_leaves f) rests)
  pub ends : AreEnds k (stripes_each fs r d k value) (drop (count_leaves f) rests)
  pub few : count_leaves f ≤ length rests

split : (f : Field) (fs : Fields) (r d k : ℕ) (old rests : Columns) → HasLevels (FitEach (field f fs)) (stripes_each (field f fs) r d k) k old rests → Split f fs r d k old rests
split f fs r d k old rests w = at w.value w.fits w.front w.ends
  where
    at : (vs : ValueTrees) → FitEach (field f fs) vs → Fronts (stripes_each (field f fs) r d k vs) w.whole rests → AreEnds k (stripes_each (field f fs) r d k vs) rests → Split f fs r d k old rests
    at no_values h front ends = absurd (false≢true h)
    at (item v vs) h front ends =
        let parts = and_parts (fits f v) (fits_each fs vs) h in
        let n : length (stripes f r d k v) ≡ count_leaves f = size f r d k v in
        let cut = fronts_split (stripes f r d k v) (stripes_each fs r d k vs) w.whole rests front in
        let long : length (stripes f r d k v) ≤ length rests = long_rests front in
        let last = ends_split k (stripes f r d k v) (stripes_each fs r d k vs) rests ends (drop (length (stripes f r d k v)) w.whole) long in
        record {
          behind = drop (count_leaves f) w.whole;
          first = record {
            value = v;
            fits = parts.0;
            whole = w.whole;
            alike = w.alike;
            front = subst (λ m. Fronts (stripes f r d k v) w.whole (take m rests ++ drop m w.whole)) n cut.0;
            ends = subst (λ m. AreEnds k (stripes f r d k v) (take m rests ++ drop m w.whole)) n last.0;
          };
          value = vs;
          fits = parts.1;
          front = subst (λ m. Fronts (stripes_each fs r d k vs) (drop m w.whole) (drop m rests)) n cut.1;
          ends = subst (λ m. AreEnds k (stripes_each fs r d k vs) (drop m rests)) n last.1;
          few = subst (λ m. m ≤ length rests) n long;
        }
      where
        long_rests : Fronts (stripes f r d k v ++ stripes_each fs r d k vs) w.whole rests → length (stripes f r d k v) ≤ length rests
        long_rests front = fronts_longer (stripes f r d k v) (stripes_each fs r d k vs) w.whole rests front
          where
            fronts_longer : (A B old new : Columns) → Fronts (A ++ B) old new → length A ≤ length new
            fronts_longer [] B old new h = omega arith
            fronts_longer (a ∷ A) B [] new h = absurd h
            fronts_longer (a ∷ A) B (o ∷ old) [] h = absurd h
            fronts_longer (a ∷ A) B (o ∷ old) (n ∷ new) h = let k = fronts_longer A B old new h.1 in omega (arith, k)

-- with the stripes of the values of `gs` those of all values are whole
abbrev pub Whole : Fields → Fields → ℕ → ℕ → ℕ → ℕ → ValueTrees → Columns → Columns → Type 0
Whole fs gs r d k used vs old now = (ws : ValueTrees) (sub : Columns) → Fronts (stripes_each gs r d k ws) (drop used now) sub → Fronts (stripes_each fs r d k (join vs ws)) old (take used now ++ sub)

-- with values of `gs` that fit all values fit
abbrev pub WholeFit : Fields → Fields → ValueTrees → Type 0
WholeFit fs gs vs = (ws : ValueTrees) → FitEach gs ws → FitEach fs (join vs ws)

pub fit_begins : (fs : Fields) → WholeFit fs fs no_values
fit_begins fs ws h = h

pub fit_step : (fs : Fields) (f : Field) (gs : Fields) (vs : ValueTrees) (v : ValueTree) → WholeFit fs (field f gs) vs → Fit f v → WholeFit fs gs (snoc vs v)
fit_step fs f gs vs v whole h ws g = subst (FitEach fs) (sym (join_snoc vs v ws)) (whole (item v ws) (rw (h, g) refl))

pub fit_finished : (fs : Fields) (vs : ValueTrees) → WholeFit fs no_fields vs → FitEach fs vs
fit_finished fs vs whole = subst (FitEach fs) (join_none vs) (whole no_values refl)

pub whole_begins : (fs : Fields) (r d k : ℕ) (now : Columns) → Whole fs fs r d k 0 no_values now now
whole_begins fs r d k now ws sub g = g

-- the values of the first fields are read, and those of `gs` are left
pub record SoFar (fs gs : Fields) (r d k : ℕ) (old now : Columns) (used : ℕ) (vs : ValueTrees) : Type 0 where
  pub counts : used + count_leaves_each gs ≡ count_leaves_each fs
  pub room : used ≤ length now
  pub fit : WholeFit fs gs vs
  pub whole : Whole fs gs r d k used vs old now
  pub alone : (rests : Columns) → HasLevels (FitEach fs) (stripes_each fs r d k) k old rests → HasLevels (FitEach gs) (stripes_each gs r d k) k (drop used now) (drop used rests) × (AreAlike (take used rests) (take used now) × (used ≤ length rests))
  pub suit : AllSuit (wants_each fs d) old → AllSuit (wants_each gs d) (drop used now)

pub begins : (fs : Fields) (r d k : ℕ) (old : Columns) → SoFar fs fs r d k old old 0 no_values
begins fs r d k old = record {
  counts = omega arith;
  room = omega arith;
  fit = fit_begins fs;
  whole = whole_begins fs r d k old;
  alone = λ rests w. (w, (refl, omega arith));
  suit = λ s. s;
}

pub whole_step : (fs : Fields) (f : Field) (gs : Fields) (r d k : ℕ) (old now sub : Columns) (used : ℕ) (vs : ValueTrees) (v : ValueTree)
    → used ≤ length now → Whole fs (field f gs) r d k used vs old now → Fronts (stripes f r d k v) (drop used now) sub → Whole fs gs r d k (used + count_leaves f) (snoc vs v) old (take used now ++ sub)
whole_step fs f gs r d k old now sub used vs v room whole front ws more g =
    let n = count_leaves f in
    let A = stripes f r d k v in
    let front_size : length (take used now) ≡ used = length-take-le used now room in
    let sized : length A ≡ n = size f r d k v in
    let rest_is : drop (used + n) (take used now ++ sub) ≡ drop n sub = drop_past used n (take used now) sub front_size in
    let front_is : take (used + n) (take used now ++ sub) ≡ take used now ++ take n sub = take_past (take used now) sub (used + n) n (omega (arith, front_size)) in
    let there : Fronts (stripes_each gs r d k ws) (drop (length A) sub) more = subst (λ m. Fronts (stripes_each gs r d k ws) (drop m sub) more) (sym sized) (subst (λ c. Fronts (stripes_each gs r d k ws) c more) rest_is g) in
    let joined : Fronts (A ++ stripes_each gs r d k ws) (drop used now) (take n sub ++ more) = subst (λ m. Fronts (A ++ stripes_each gs r d k ws) (drop used now) (take m sub ++ more)) sized (fronts_join A (stripes_each gs r d k ws) (drop used now) sub more front there) in
    let all = whole (item v ws) (take n sub ++ more) joined in
    let now_is : take used now ++ (take n sub ++ more) ≡ take (used + n) (take used now ++ sub) ++ more = sym (append_assoc (take used now) (take n sub) more) ∙ ap (λ t. t ++ more) (sym front_is) in
    subst (λ us. Fronts (stripes_each fs r d k us) old (take (used + n) (take used now ++ sub) ++ more)) (sym (join_snoc vs v ws)) (subst (Fronts (stripes_each fs r d k (join vs (item v ws))) old) now_is all)

pub whole_finished : (fs : Fields) (r d k : ℕ) (old now : Columns) (used : ℕ) (vs : ValueTrees) → Whole fs no_fields r d k used vs old now → Fronts (stripes_each fs r d k vs) old now
whole_finished fs r d k old now used vs whole =
    subst (λ us. Fronts (stripes_each fs r d k us) old now) (join_none vs) (subst (Fronts (stripes_each fs r d k (join vs no_values)) old) (take-append-drop used now) (whole no_values (drop used now) refl))

pub step : (fs : Fields) (f : Field) (gs : Fields) (r d k : ℕ) (old now sub : Columns) (used : ℕ) (vs : ValueTrees) (v : ValueTree)
    → SoFar fs (field f gs) r d k old now used vs → IsRead (Fit f) (stripes f r d k) k (drop used now) sub v → SoFar fs gs r d k old (take used now ++ sub) (used + count_leaves f) (snoc vs v)
step fs f gs r d k old now sub used vs v so h =
    let n = count_leaves f in
    let A = stripes f r d k v in
    let front_size : length (take used now) ≡ used = length-take-le used now so.room in
    let sized : length A ≡ n = size f r d k v in
    let long : length A ≤ length sub = fronts_length_new A (drop used now) sub h.front in
    let rest_is : drop (used + n) (take used now ++ sub) ≡ drop n sub = drop_past used n (take used now) sub front_size in
    let front_is : take (used + n) (take used now ++ sub) ≡ take used now ++ take n sub = take_past (take used now) sub (used + n) n (omega (arith, front_size)) in
    record {
      counts = omega (arith, so.counts);
      room = let both = length-both (take used now) sub in omega (arith, both, front_size, long, sized);
      fit = fit_step fs f gs vs v so.fit h.fits;
      whole = whole_step fs f gs r d k old now sub used vs v so.room so.whole h.front;
      alone = λ rests w.
          let a = so.alone rests w in
          let R = drop used rests in
          let s = split f gs r d k (drop used now) R a.0 in
          let alike : AreAlike (take n R ++ s.behind) sub = h.alone (take n R ++ s.behind) s.first in
          let taken : length (take n R) ≡ n = length-take-le n R s.few in
          let behind : AreAlike s.behind (drop n sub) = subst (λ c. AreAlike c (drop n sub)) (drop_front (take n R) s.behind n taken) (alike_drop n (take n R ++ s.behind) sub alike) in
          let before : AreAlike (take n R) (take n sub) = subst (λ c. AreAlike c (take n sub)) (take_front (take n R) s.behind n taken) (alike_take n (take n R ++ s.behind) sub alike) in
          let rests_is : drop n R ≡ drop (used + n) rests = drop-drop n used rests in
          let few = s.few in
          let left = length-left used rests a.1.1 in (
            record {
              value = s.value;
              fits = s.fits;
              whole = s.behind;
              alike = subst (AreAlike s.behind) (sym rest_is) behind;
              front = subst (Fronts (stripes_each gs r d k s.value) s.behind) rests_is s.front;
              ends = subst (AreEnds k (stripes_each gs r d k s.value)) rests_is s.ends;
            },
            (
              subst (AreAlike (take (used + n) rests)) (sym front_is) (subst (λ c. AreAlike c (take used now ++ take n sub)) (sym (take_parts used n rests a.1.1)) (alike_append (take used rests) (take used now) (take n R) (take n sub) a.1.0 before)),
              omega (arith, few, left),
            ),
          );
      suit = λ s.
          let p = suit_split (wants f d) (wants_each gs d) (drop used now) (so.suit s) in
          let same : drop (length (wants f d)) (drop used now) ≡ drop (used + n) (take used now ++ sub) =
          ap (λ m. drop m (drop used now)) (wants_size f d ∙ sym sized) ∙ fronts_behind A (drop used now) sub h.front ∙ ap (λ m. drop m sub) sized ∙ sym rest_is in
          subst (AllSuit (wants_each gs d)) same p.1;
    }
  where
    length-both : (xs ys : Columns) → length (xs ++ ys) ≡ length xs + length ys
    length-both [] ys = omega arith
    length-both (x ∷ xs) ys = let e = length-both xs ys in omega (arith, e)

    length-left : (n : ℕ) (xs : Columns) → n ≤ length xs → length (drop n xs) + n ≡ length xs
    length-left zero xs h = omega arith
    length-left (suc n) [] h = absurd (omega (arith, h))
    length-left (suc n) (x ∷ xs) h = let e = length-left n xs (omega (arith, h)) in omega (arith, e)

pub faulty : (fs : Fields) (f : Field) (gs : Fields) (r d k : ℕ) (old now : Columns) (used : ℕ) (vs : ValueTrees) (e : Refusal)
    → SoFar fs (field f gs) r d k old now used vs → IsFaulty (Fit f) (stripes f r d k) k (wants f d) (drop used now) e → IsFaulty (FitEach fs) (stripes_each fs r d k) k (wants_each fs d) old e
faulty fs f gs r d k old now used vs e so =
    faulty_up (Fit f) (stripes f r d k) k (wants f d) (FitEach fs) (stripes_each fs r d k) k (wants_each fs d) (drop used now) old e
    (λ rests w. let s = split f gs r d k (drop used now) (drop used rests) (so.alone rests w).0 in (take (count_leaves f) (drop used rests) ++ s.behind, s.first))
    (λ s. (suit_split (wants f d) (wants_each gs d) (drop used now) (so.suit s)).0)

pub finished : (fs : Fields) (r d k : ℕ) (old now : Columns) (used : ℕ) (vs : ValueTrees) → SoFar fs no_fields r d k old now used vs → IsRead (FitEach fs) (stripes_each fs r d k) k old now vs
finished fs r d k old now used vs so =
    record {
      fits = fit_finished fs vs so.fit;
      front = whole_finished fs r d k old now used vs so.whole;
      alone = λ rests w.
          let a = so.alone rests w in
          let behind : AreAlike (drop used rests) (drop used now) = subst (λ c. AreAlike c (drop used now)) a.0.front a.0.alike in
          subst (AreAlike rests) (take-append-drop used now) (subst (λ c. AreAlike c (take used now ++ drop used now)) (take-append-drop used rests) (alike_append (take used rests) (take used now) (drop used rests) (drop used now) a.1.0 behind));
    }
