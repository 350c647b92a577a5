-- Which entries the columns of fitting rows have.
use Rattle.std.proofs.Common.{ℕ, ◌≡◌, ◌+◌, ◌<◌, ◌≤◌, suc, true, Bool, List, [], ◌∷◌, map, None, sym, subst, ◌∙◌, inl, inr, arith}
use Rattle.std.specs.List.{AllByRecursion}
use Rattle.std.proofs.lemmas.Bool.{and_parts, false≢true}
use Rattle.lists.proofs.Lists.{all_mapped, all_weaker, all_append as all_joined}
use Rattle.schema.specs.declared.value.Repetition.{Repetition}
use Rattle.schema.specs.declared.value.Repetition.TheVariants.{Required, Optional, Repeated}
use Rattle.schema.specs.Annotations.{LeafType}
use Rattle.schema.specs.Values.{ValueTree, group, ValueTrees, no_values, value as item, each}
use Rattle.schema.specs.Shape.{Field, leaf, fields, Fields, no_fields, field, repetition_of}
use Rattle.schema.specs.Fits.{fits, fits_each, fits_as, fits_leaf, is_group, RowsFit}
use Rattle.schema.specs.Stripe.{Leaf, below, leaves, leaves_from, leaves_of, Striping, stripe, stripe_as, list_items, later_items, column, definitions, repetitions, greatest_definition, greatest_repetition}
use Rattle.schema.specs.Law.{IsEntry, IsEntryOf, HasGreatestLevels, EntriesAreOfLeaves}
use Rattle.schema.proofs.LeafLaws.{when_optional, when_repeated, when_group}
use Rattle.schema.proofs.Determined.{At, At-first, At-next, At-whole}
use Rattle.schema.proofs.Kept.{levels_are_of_steps}

-- what fits gives entries of levels at most this far above those that it begins with
abbrev Holds : (ValueTree → Bool) → Striping → ℕ → ℕ → LeafType → Type 0
Holds P S a b t = (v : ValueTree) → P v ≡ true → (r d k most full : ℕ) → r ≤ k → most ≡ k + a → full ≡ d + b → AllByRecursion (IsEntry most full t) (S v r d k)

absent : (t : LeafType) (r d most full : ℕ) → r ≤ most → d < full → IsEntry most full t (record { repetition = r; definition = d; value = None })
absent t r d most full h k = record { repetition = h; definition = omega (arith, k); value = k }

later_hold : (P : ValueTree → Bool) (S : Striping) (a b : ℕ) (t : LeafType) → Holds P S a b t
    → (vs : ValueTrees) → each P vs ≡ true → (d k most full : ℕ) → most ≡ k + a → full ≡ d + b → AllByRecursion (IsEntry most full t) (later_items S vs d k)
later_hold P S a b t h no_values e d k most full p q = tt
later_hold P S a b t h (item v vs) e d k most full p q =
    let parts = and_parts (P v) (each P vs) e in
    all_joined (IsEntry most full t) (S v k d k) (later_items S vs d k) (h v parts.0 k d k most full (omega arith) p q) (later_hold P S a b t h vs parts.1 d k most full p q)

list_holds : (P : ValueTree → Bool) (S : Striping) (a b : ℕ) (t : LeafType) → Holds P S a b t
    → (vs : ValueTrees) → each P vs ≡ true → (r d k most full : ℕ) → r ≤ k → most ≡ k + (1 + a) → full ≡ d + (1 + b) → AllByRecursion (IsEntry most full t) (list_items S vs r d k)
list_holds P S a b t h no_values e r d k most full le p q = (absent t r d most full (omega (arith, le, p)) (omega (arith, q)), tt)
list_holds P S a b t h (item v vs) e r d k most full le p q =
    let parts = and_parts (P v) (each P vs) e in
    let further : most ≡ suc k + a = omega (arith, p) in
    let deeper : full ≡ suc d + b = omega (arith, q) in
    all_joined (IsEntry most full t) (S v r (suc d) (suc k)) (later_items S vs (suc d) (suc k))
    (h v parts.0 r (suc d) (suc k) most full (omega (arith, le)) further deeper)
    (later_hold P S a b t h vs parts.1 (suc d) (suc k) most full further deeper)

holds_as : (x : Repetition) (P : ValueTree → Bool) (S : Striping) (a b : ℕ) (t : LeafType) → Holds P S a b t
    → Holds (fits_as x P) (stripe_as x S) (repetitions x + a) (definitions x + b) t
holds_as Required P S a b t h v e r d k most full le p q = h v e r d k most full le (omega (arith, p)) (omega (arith, q))
holds_as Optional P S a b t h v e r d k most full le p q =
    elim (when_optional v) [
      | inl is ↦ subst (λ (w : ValueTree). AllByRecursion (IsEntry most full t) (stripe_as Optional S w r d k)) (sym is) (absent t r d most full (omega (arith, le, p)) (omega (arith, q)), tt)
      | inr some ↦ subst (AllByRecursion (IsEntry most full t)) (sym (some.0 S r d k)) (h v (sym (some.1 P) ∙ e) r (suc d) k most full le (omega (arith, p)) (omega (arith, q)))
    ]
holds_as Repeated P S a b t h v e r d k most full le p q =
    let w = when_repeated v P e in
    subst (λ (u : ValueTree). AllByRecursion (IsEntry most full t) (stripe_as Repeated S u r d k)) (sym w.1.0) (list_holds P S a b t h w.0 w.1.1 r d k most full le p q)

leaf_holds : (t : LeafType) → Holds (fits_leaf t) (stripe []) 0 0 t
leaf_holds t v e r d k most full le p q =
    let same : d ≡ full = omega (arith, q) in
    (record { repetition = omega (arith, le, p); definition = omega (arith, same); value = (same, e) }, tt)

-- so it is at a leaf below a field, its repetition aside or not, and below some fields, the first of which has this place
abbrev HoldsAt : Field → Leaf → Type 0
HoldsAt f l = Holds (fits f) (stripe_as (repetition_of f) (stripe l.steps)) (repetitions (repetition_of f) + greatest_repetition l.steps) (definitions (repetition_of f) + greatest_definition l.steps) l.leaf_type

abbrev HoldsFrom : Fields → ℕ → Leaf → Type 0
HoldsFrom fs i l = (V : ValueTree) (vs : ValueTrees) → fits_each fs vs ≡ true → At i V vs
    → (r d k most full : ℕ) → r ≤ k → most ≡ k + greatest_repetition l.steps → full ≡ d + greatest_definition l.steps → AllByRecursion (IsEntry most full l.leaf_type) (stripe l.steps V r d k)

holds_first : (f : Field) (fs : Fields) (i : ℕ) (l : Leaf) → HoldsAt f l → HoldsFrom (field f fs) i (below i f l)
holds_first f fs i l h V no_values e at r d k most full le p q = absurd (false≢true e)
holds_first f fs i l h V (item v vs) e at r d k most full le p q =
    let parts = and_parts (fits f v) (fits_each fs vs) e in
    subst (λ (w : ValueTree). AllByRecursion (IsEntry most full l.leaf_type) (stripe_as (repetition_of f) (stripe l.steps) w r d k)) (sym (At-first i V v vs at))
    (h v parts.0 r d k most full le p q)

holds_next : (f : Field) (fs : Fields) (i : ℕ) (l : Leaf) → HoldsFrom fs (suc i) l → HoldsFrom (field f fs) i l
holds_next f fs i l h V no_values e at r d k most full le p q = absurd (false≢true e)
holds_next f fs i l h V (item v vs) e at r d k most full le p q =
    let parts = and_parts (fits f v) (fits_each fs vs) e in
    h V vs parts.1 (At-next i V v vs at) r d k most full le p q

holds_group : (fs : Fields) (l : Leaf) → HoldsFrom fs 0 l → Holds (is_group (fits_each fs)) (stripe l.steps) (greatest_repetition l.steps) (greatest_definition l.steps) l.leaf_type
holds_group fs l h v e r d k most full le p q =
    let w = when_group v (fits_each fs) e in
    subst (λ (u : ValueTree). AllByRecursion (IsEntry most full l.leaf_type) (stripe l.steps u r d k)) (sym w.1.0) (h (group w.0) w.0 w.1.1 (At-whole w.0) r d k most full le p q)

mutual
  all_hold : (f : Field) → AllByRecursion (HoldsAt f) (leaves f)
  all_hold (leaf n x t) = (holds_as x (fits_leaf t) (stripe []) 0 0 t (leaf_holds t), tt)
  all_hold (fields n x a fs) =
      all_weaker (HoldsFrom fs 0) (HoldsAt (fields n x a fs))
      (λ l h. holds_as x (is_group (fits_each fs)) (stripe l.steps) (greatest_repetition l.steps) (greatest_definition l.steps) l.leaf_type (holds_group fs l h))
      (leaves_from 0 fs) (all_hold_from fs 0)

  all_hold_from : (fs : Fields) (i : ℕ) → AllByRecursion (HoldsFrom fs i) (leaves_from i fs)
  all_hold_from no_fields i = tt
  all_hold_from (field f fs) i =
      all_joined (HoldsFrom (field f fs) i) (map (below i f) (leaves f)) (leaves_from (suc i) fs)
      (all_mapped (HoldsAt f) (HoldsFrom (field f fs) i) (below i f) (holds_first f fs i) (leaves f) (all_hold f))
      (all_weaker (HoldsFrom fs (suc i)) (HoldsFrom (field f fs) i) (holds_next f fs i) (leaves_from (suc i) fs) (all_hold_from fs (suc i)))

column_holds : (fs : Fields) (l : Leaf) → HoldsFrom fs 0 l → HasGreatestLevels l → (rows : List ValueTrees) → RowsFit fs rows → AllByRecursion (IsEntryOf l) (column rows l.steps)
column_holds fs l h g [] e = tt
column_holds fs l h g (row ∷ rows) e =
    all_joined (IsEntryOf l) (stripe l.steps (group row) 0 0 0) (column rows l.steps)
    (h (group row) row e.0 (At-whole row) 0 0 0 l.greatest_repetition l.greatest_definition (omega arith) (omega (arith, g.repetition)) (omega (arith, g.definition)))
    (column_holds fs l h g rows e.1)

columns_hold : (fs : Fields) (rows : List ValueTrees) → RowsFit fs rows → (ls : List Leaf) → AllByRecursion (HoldsFrom fs 0) ls → AllByRecursion HasGreatestLevels ls
    → AllByRecursion (λ l. AllByRecursion (IsEntryOf l) (column rows l.steps)) ls
columns_hold fs rows e [] h g = tt
columns_hold fs rows e (l ∷ ls) h g = (column_holds fs l h.0 g.0 rows e, columns_hold fs rows e ls h.1 g.1)

pub entries_are_of_leaves : EntriesAreOfLeaves
entries_are_of_leaves fs rows e = columns_hold fs rows e (leaves_of fs) (all_hold_from fs 0) (levels_are_of_steps fs)
