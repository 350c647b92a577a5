-- Each row gives each leaf one entry with the repetition level 0, which comes first.
use Rattle.std.proofs.Common.{ℕ, ◌≡◌, ◌<◌, suc, true, Bool, List, [], ◌∷◌, ◌++◌, map, refl, sym, subst, ◌∙◌, inl, inr, arith}
use Rattle.std.specs.List.{AllByRecursion}
use Rattle.std.proofs.lemmas.Bool.{and_parts, false≢true}
use Rattle.lists.proofs.Lists.{all_mapped, all_weaker, all_append as all_joined}
use Rattle.schema.specs.declared.value.Repetition.{Repetition}
use Rattle.schema.specs.declared.value.Repetition.TheVariants.{Required, Optional, Repeated}
use Rattle.schema.specs.Annotations.{LeafType}
use Rattle.schema.specs.Values.{ValueTree, group, ValueTrees, no_values, value as item, each}
use Rattle.schema.specs.Shape.{Field, leaf, fields, Fields, no_fields, field, repetition_of}
use Rattle.schema.specs.Fits.{fits, fits_each, fits_as, fits_leaf, is_group, RowsFit}
use Rattle.schema.specs.Stripe.{Leaf, Entry, below, leaves, leaves_from, leaves_of, Striping, stripe, stripe_as, list_items, later_items}
use Rattle.schema.specs.Law.{BeginsOneRow, RowsBeginOnce}
use Rattle.schema.proofs.LeafLaws.{when_optional, when_repeated, when_group}
use Rattle.schema.proofs.Determined.{At, At-first, At-next, At-whole}

abbrev Above : ℕ → List Entry → Type 0
Above k es = AllByRecursion (λ e. k < e.repetition) es

-- the first entry has this repetition level, and the others a greater one than k
abbrev Once : ℕ → ℕ → List Entry → Type 0
Once r k [] = ⊥
Once r k (e ∷ es) = (e.repetition ≡ r) × Above k es

above_weaker : (k : ℕ) (es : List Entry) → Above (suc k) es → Above k es
above_weaker k [] h = tt
above_weaker k (e ∷ es) h = let one = h.0 in (omega (arith, one), above_weaker k es h.1)

-- an item that is not the first begins above the level of its list
above_of_once : (k : ℕ) (es : List Entry) → Once (suc k) (suc k) es → Above k es
above_of_once k [] h = absurd h
above_of_once k (e ∷ es) h = let one = h.0 in (omega (arith, one), above_weaker k es h.1)

once_joined : (r k : ℕ) (es more : List Entry) → Once r (suc k) es → Above k more → Once r k (es ++ more)
once_joined r k [] more h m = absurd h
once_joined r k (e ∷ es) more h m = (h.0, all_joined (λ x. k < x.repetition) es more (above_weaker k es h.1) m)

-- so is what fits, whatever levels it begins with
abbrev GivesOnce : (ValueTree → Bool) → Striping → Type 0
GivesOnce P S = (v : ValueTree) → P v ≡ true → (r d k : ℕ) → Once r k (S v r d k)

later_above : (P : ValueTree → Bool) (S : Striping) → GivesOnce P S → (vs : ValueTrees) → each P vs ≡ true → (d k : ℕ) → Above k (later_items S vs d (suc k))
later_above P S h no_values e d k = tt
later_above P S h (item v vs) e d k =
    let parts = and_parts (P v) (each P vs) e in
    all_joined (λ x. k < x.repetition) (S v (suc k) d (suc k)) (later_items S vs d (suc k)) (above_of_once k (S v (suc k) d (suc k)) (h v parts.0 (suc k) d (suc k))) (later_above P S h vs parts.1 d k)

list_once : (P : ValueTree → Bool) (S : Striping) → GivesOnce P S → (vs : ValueTrees) → each P vs ≡ true → (r d k : ℕ) → Once r k (list_items S vs r d k)
list_once P S h no_values e r d k = (refl, tt)
list_once P S h (item v vs) e r d k =
    let parts = and_parts (P v) (each P vs) e in
    once_joined r k (S v r (suc d) (suc k)) (later_items S vs (suc d) (suc k)) (h v parts.0 r (suc d) (suc k)) (later_above P S h vs parts.1 (suc d) k)

once_as : (x : Repetition) (P : ValueTree → Bool) (S : Striping) → GivesOnce P S → GivesOnce (fits_as x P) (stripe_as x S)
once_as Required P S h v e r d k = h v e r d k
once_as Optional P S h v e r d k =
    elim (when_optional v) [
      | inl is ↦ subst (λ (w : ValueTree). Once r k (stripe_as Optional S w r d k)) (sym is) (refl, tt)
      | inr some ↦ subst (Once r k) (sym (some.0 S r d k)) (h v (sym (some.1 P) ∙ e) r (suc d) k)
    ]
once_as Repeated P S h v e r d k =
    let w = when_repeated v P e in
    subst (λ (u : ValueTree). Once r k (stripe_as Repeated S u r d k)) (sym w.1.0) (list_once P S h w.0 w.1.1 r d k)

leaf_once : (t : LeafType) → GivesOnce (fits_leaf t) (stripe [])
leaf_once t v e r d k = (refl, tt)

abbrev OnceAt : Field → Leaf → Type 0
OnceAt f l = GivesOnce (fits f) (stripe_as (repetition_of f) (stripe l.steps))

abbrev OnceFrom : Fields → ℕ → Leaf → Type 0
OnceFrom fs i l = (V : ValueTree) (vs : ValueTrees) → fits_each fs vs ≡ true → At i V vs → (r d k : ℕ) → Once r k (stripe l.steps V r d k)

once_first : (f : Field) (fs : Fields) (i : ℕ) (l : Leaf) → OnceAt f l → OnceFrom (field f fs) i (below i f l)
once_first f fs i l h V no_values e at r d k = absurd (false≢true e)
once_first f fs i l h V (item v vs) e at r d k =
    let parts = and_parts (fits f v) (fits_each fs vs) e in
    subst (λ (w : ValueTree). Once r k (stripe_as (repetition_of f) (stripe l.steps) w r d k)) (sym (At-first i V v vs at)) (h v parts.0 r d k)

once_next : (f : Field) (fs : Fields) (i : ℕ) (l : Leaf) → OnceFrom fs (suc i) l → OnceFrom (field f fs) i l
once_next f fs i l h V no_values e at r d k = absurd (false≢true e)
once_next f fs i l h V (item v vs) e at r d k =
    let parts = and_parts (fits f v) (fits_each fs vs) e in
    h V vs parts.1 (At-next i V v vs at) r d k

once_group : (fs : Fields) (l : Leaf) → OnceFrom fs 0 l → GivesOnce (is_group (fits_each fs)) (stripe l.steps)
once_group fs l h v e r d k =
    let w = when_group v (fits_each fs) e in
    subst (λ (u : ValueTree). Once r k (stripe l.steps u r d k)) (sym w.1.0) (h (group w.0) w.0 w.1.1 (At-whole w.0) r d k)

mutual
  all_once : (f : Field) → AllByRecursion (OnceAt f) (leaves f)
  all_once (leaf n x t) = (once_as x (fits_leaf t) (stripe []) (leaf_once t), tt)
  all_once (fields n x a fs) =
      all_weaker (OnceFrom fs 0) (OnceAt (fields n x a fs)) (λ l h. once_as x (is_group (fits_each fs)) (stripe l.steps) (once_group fs l h)) (leaves_from 0 fs) (all_once_from fs 0)

  all_once_from : (fs : Fields) (i : ℕ) → AllByRecursion (OnceFrom fs i) (leaves_from i fs)
  all_once_from no_fields i = tt
  all_once_from (field f fs) i =
      all_joined (OnceFrom (field f fs) i) (map (below i f) (leaves f)) (leaves_from (suc i) fs)
      (all_mapped (OnceAt f) (OnceFrom (field f fs) i) (below i f) (once_first f fs i) (leaves f) (all_once f))
      (all_weaker (OnceFrom fs (suc i)) (OnceFrom (field f fs) i) (once_next f fs i) (leaves_from (suc i) fs) (all_once_from fs (suc i)))

begins_one : (es : List Entry) → Once 0 0 es → BeginsOneRow es
begins_one [] h = h
begins_one (e ∷ es) h = h

rows_begin : (fs : Fields) (l : Leaf) → OnceFrom fs 0 l → (rows : List ValueTrees) → RowsFit fs rows → AllByRecursion (λ row. BeginsOneRow (stripe l.steps (group row) 0 0 0)) rows
rows_begin fs l h [] e = tt
rows_begin fs l h (row ∷ rows) e = (begins_one (stripe l.steps (group row) 0 0 0) (h (group row) row e.0 (At-whole row) 0 0 0), rows_begin fs l h rows e.1)

pub rows_begin_once : RowsBeginOnce
rows_begin_once fs rows e = all_weaker (OnceFrom fs 0) (λ l. AllByRecursion (λ row. BeginsOneRow (stripe l.steps (group row) 0 0 0)) rows) (λ l h. rows_begin fs l h rows e) (leaves_of fs) (all_once_from fs 0)
