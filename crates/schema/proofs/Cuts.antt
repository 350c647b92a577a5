-- A cut schema has the wanted leaves, and rows cut with it have their columns.
use Rattle.std.proofs.Common.{ℕ, suc, ◌≡◌, ◌+◌, Bool, true, false, List, [], ◌∷◌, ◌++◌, length, map, Option, Some, None, refl, ap, sym, subst, ◌∙◌, arith}
use Rattle.std.specs.Prelude.{if◌then◌else◌}
use Rattle.lists.proofs.Lists.{length_map as length-each}
use Rattle.schema.specs.declared.value.Repetition.{Repetition}
use Rattle.schema.specs.declared.value.Repetition.TheVariants.{Required, Optional, Repeated}
use Rattle.schema.specs.declared.annotation.GroupAnnotation.{GroupAnnotation}
use Rattle.schema.specs.Annotations.{LeafType}
use Rattle.schema.specs.Values.{ValueTree, null, boolean, integer, bytes, group, list, ValueTrees, no_values, value as item, member}
use Rattle.schema.specs.Shape.{Field, leaf, fields, Fields, no_fields, field, repetition_of, name_of}
use Rattle.schema.specs.Stripe.{Leaf, leaf_at, below, leaves, leaves_from, leaves_of, Striping, stripe, stripe_as, list_items, later_items, column, definitions, repetitions, greatest_definition, greatest_repetition}
use Rattle.schema.specs.Cutting.{group_of, kept, cut, cut_each, is_among, cut_to, cut_items, cut_as, cut_group, kept_value, cut_value, cut_values, cut_rows, wanted_of, CutRowsHaveColumns, shown, CutHasLeaves}
use Rattle.schema.proofs.Determined.{At, At-first, At-next, At-whole}
use Rattle.schema.proofs.Chosen.{wanted-map, wanted-both, Paired, paired-both, paired-more, paired-each, paired-map}

-- the leaves of what is kept
abbrev pub leaves_kept : Option Field → List Leaf
leaves_kept None = []
leaves_kept (Some f) = leaves f

-- the leaf of the cut schema, and the one of the whole schema
pub record IsLike (l m : Leaf) : Type 0 where
  pub path : l.path ≡ m.path
  pub leaf_type : l.leaf_type ≡ m.leaf_type
  pub long : length l.steps ≡ length m.steps
  pub repetition : greatest_repetition l.steps ≡ greatest_repetition m.steps
  pub definition : greatest_definition l.steps ≡ greatest_definition m.steps
  pub levels : (l.greatest_repetition ≡ m.greatest_repetition) × (l.greatest_definition ≡ m.greatest_definition)

-- what a value gives to it, at a field, and from some fields on
abbrev pub GivesAt : (ℕ → Bool) → ℕ → Field → Leaf → Leaf → Type 0
GivesAt w at f l m = (v : ValueTree) (r d k : ℕ) → stripe_as (repetition_of f) (stripe l.steps) (cut_value w at f v) r d k ≡ stripe_as (repetition_of f) (stripe m.steps) v r d k

abbrev pub GivesFrom : (ℕ → Bool) → ℕ → ℕ → ℕ → Fields → Leaf → Leaf → Type 0
GivesFrom w at j i fs l m = (V W : ValueTree) (vs : ValueTrees) → At i V vs → At j W (cut_values w at fs vs) → (r d k : ℕ) → stripe l.steps W r d k ≡ stripe m.steps V r d k

abbrev pub SameAt : (ℕ → Bool) → ℕ → Field → Leaf → Leaf → Type 0
SameAt w at f l m = IsLike l m × GivesAt w at f l m

abbrev pub SameFrom : (ℕ → Bool) → ℕ → ℕ → ℕ → Fields → Leaf → Leaf → Type 0
SameFrom w at j i fs l m = IsLike l m × GivesFrom w at j i fs l m

later_same : (S T : Striping) (c : ValueTrees → ValueTrees) → ((v : ValueTree) (r d k : ℕ) → S (cut_group c v) r d k ≡ T v r d k)
    → (vs : ValueTrees) (d k : ℕ) → later_items S (cut_items (cut_group c) vs) d k ≡ later_items T vs d k
later_same S T c h no_values d k = refl
later_same S T c h (item v vs) d k =
    ap (λ t. t ++ later_items S (cut_items (cut_group c) vs) d k) (h v k d k) ∙ ap (λ t. T v k d k ++ t) (later_same S T c h vs d k)

items_same : (S T : Striping) (c : ValueTrees → ValueTrees) → ((v : ValueTree) (r d k : ℕ) → S (cut_group c v) r d k ≡ T v r d k)
    → (vs : ValueTrees) (r d k : ℕ) → list_items S (cut_items (cut_group c) vs) r d k ≡ list_items T vs r d k
items_same S T c h no_values r d k = refl
items_same S T c h (item v vs) r d k =
    ap (λ t. t ++ later_items S (cut_items (cut_group c) vs) (suc d) (suc k)) (h v r (suc d) (suc k)) ∙ ap (λ t. T v r (suc d) (suc k) ++ t) (later_same S T c h vs (suc d) (suc k))

as_same : (x : Repetition) (S T : Striping) (c : ValueTrees → ValueTrees) → ((v : ValueTree) (r d k : ℕ) → S (cut_group c v) r d k ≡ T v r d k)
    → (v : ValueTree) (r d k : ℕ) → stripe_as x S (cut_as x (cut_group c) v) r d k ≡ stripe_as x T v r d k
as_same Required S T c h v r d k = h v r d k
as_same Optional S T c h null r d k = refl
as_same Optional S T c h (boolean b) r d k = h (boolean b) r (suc d) k
as_same Optional S T c h (integer z) r d k = h (integer z) r (suc d) k
as_same Optional S T c h (bytes x) r d k = h (bytes x) r (suc d) k
as_same Optional S T c h (group vs) r d k = h (group vs) r (suc d) k
as_same Optional S T c h (list vs) r d k = h (list vs) r (suc d) k
as_same Repeated S T c h null r d k = refl
as_same Repeated S T c h (boolean b) r d k = refl
as_same Repeated S T c h (integer z) r d k = refl
as_same Repeated S T c h (bytes x) r d k = refl
as_same Repeated S T c h (group vs) r d k = refl
as_same Repeated S T c h (list vs) r d k = items_same S T c h vs r d k

-- what has no values has none when it is cut
cut-none : (w : ℕ → Bool) (at : ℕ) (fs : Fields) → cut_values w at fs no_values ≡ no_values
cut-none w at no_fields = refl
cut-none w at (field f fs) = refl

cut-null : (w : ℕ → Bool) (at : ℕ) (f : Field) → cut_value w at f null ≡ null
cut-null w at (leaf n r t) = refl
cut-null w at (fields n Required a fs) = refl
cut-null w at (fields n Optional a fs) = refl
cut-null w at (fields n Repeated a fs) = refl

At-none : (w : ℕ → Bool) (at : ℕ) (fs : Fields) (V : ValueTree) → At 0 V no_values → At 0 V (cut_values w at fs no_values)
At-none w at fs V h = subst (At 0 V) (sym (cut-none w at fs)) h

At-past : (i : ℕ) (V : ValueTree) → At i V no_values → At (suc i) V no_values
At-past i V h j = let e : suc i + j ≡ i + suc j = omega arith in ap (λ n. member n V) e ∙ h (suc j)

At-here : (i : ℕ) (V : ValueTree) → At i V no_values → member i V ≡ null
At-here i V h = let e : i ≡ i + 0 = omega arith in ap (λ n. member n V) e ∙ h 0

-- a group's leaves, seen from the group
group_gives : (w : ℕ → Bool) (at : ℕ) (fs : Fields) (l m : Leaf) → GivesFrom w at 0 0 fs l m → (v : ValueTree) (r d k : ℕ) → stripe l.steps (cut_group (cut_values w at fs) v) r d k ≡ stripe m.steps v r d k
group_gives w at fs l m h null r d k = h null null no_values (λ j. refl) (At-none w at fs null (λ j. refl)) r d k
group_gives w at fs l m h (boolean b) r d k = h (boolean b) (boolean b) no_values (λ j. refl) (At-none w at fs (boolean b) (λ j. refl)) r d k
group_gives w at fs l m h (integer z) r d k = h (integer z) (integer z) no_values (λ j. refl) (At-none w at fs (integer z) (λ j. refl)) r d k
group_gives w at fs l m h (bytes x) r d k = h (bytes x) (bytes x) no_values (λ j. refl) (At-none w at fs (bytes x) (λ j. refl)) r d k
group_gives w at fs l m h (list vs) r d k = h (list vs) (list vs) no_values (λ j. refl) (At-none w at fs (list vs) (λ j. refl)) r d k
group_gives w at fs l m h (group vs) r d k = h (group vs) (group (cut_values w at fs vs)) vs (At-whole vs) (At-whole (cut_values w at fs vs)) r d k

group_same : (w : ℕ → Bool) (at : ℕ) (n : List ℕ) (x : Repetition) (a : Option GroupAnnotation) (fs : Fields) (l m : Leaf) → SameFrom w at 0 0 fs l m → SameAt w at (fields n x a fs) l m
group_same w at n x a fs l m h = (h.0, λ v r d k. as_same x (stripe l.steps) (stripe m.steps) (cut_values w at fs) (group_gives w at fs l m h.1) v r d k)

-- what is kept of a field is called so, and repeats so
group_names : (n : List ℕ) (r : Repetition) (a : Option GroupAnnotation) (fs : Fields) (g : Field) → Some g ≡ group_of n r a fs → g ≡ fields n r a fs
group_names n r a no_fields g e = cc
group_names n r a (field f fs) g e = cc

pub leaf_is : (b : Bool) (f g : Field) → Some g ≡ (if b then Some f else None) → g ≡ f
leaf_is true f g e = cc
leaf_is false f g e = cc

pub group_is : (w : ℕ → Bool) (at : ℕ) (n : List ℕ) (r : Repetition) (a : Option GroupAnnotation) (fs : Fields) (g : Field) → Some g ≡ cut w at (fields n r a fs) → g ≡ fields n r a (cut_each w at fs)
group_is w at n r a fs g e = group_names n r a (cut_each w at fs) g e

pub same_head : (w : ℕ → Bool) (at : ℕ) (f g : Field) → Some g ≡ cut w at f → (name_of g ≡ name_of f) × (repetition_of g ≡ repetition_of f)
same_head w at (leaf n r t) g e = let is = leaf_is (w at) (leaf n r t) g e in (ap name_of is, ap repetition_of is)
same_head w at (fields n r a fs) g e = let is = group_is w at n r a fs g e in (ap name_of is, ap repetition_of is)

-- a field that is not kept
none_gives : (w : ℕ → Bool) (at j i : ℕ) (f : Field) (fs : Fields) → None ≡ cut w at f → (l m : Leaf) → GivesFrom w (at + length (leaves f)) j (suc i) fs l m → GivesFrom w at j i (field f fs) l m
none_gives w at j i f fs e l m h V W no_values p q r d k = h V W no_values (At-past i V p) (subst (At j W) (sym (cut-none w (at + length (leaves f)) fs)) q) r d k
none_gives w at j i f fs e l m h V W (item v vs) p q r d k =
    h V W vs (At-next i V v vs p) (subst (λ o. At j W (kept_value o (cut_value w at f v) (cut_values w (at + length (leaves f)) fs vs))) (sym e) q) r d k

-- the first field, which is kept, and those behind it
first_gives : (w : ℕ → Bool) (at j i : ℕ) (f g : Field) (fs : Fields) → Some g ≡ cut w at f → (l m : Leaf) → GivesAt w at f l m → GivesFrom w at j i (field f fs) (below j g l) (below i f m)
first_gives w at j i f g fs e l m h V W no_values p q r d k =
    ap (λ x. stripe_as x (stripe l.steps) (member j W) r d k) (same_head w at f g e).1
    ∙ ap (λ u. stripe_as (repetition_of f) (stripe l.steps) u r d k) (At-here j W q ∙ sym (cut-null w at f))
    ∙ h null r d k
    ∙ ap (λ u. stripe_as (repetition_of f) (stripe m.steps) u r d k) (sym (At-here i V p))
first_gives w at j i f g fs e l m h V W (item v vs) p q r d k =
    let there : At j W (item (cut_value w at f v) (cut_values w (at + length (leaves f)) fs vs)) =
    subst (λ o. At j W (kept_value o (cut_value w at f v) (cut_values w (at + length (leaves f)) fs vs))) (sym e) q in
    ap (λ x. stripe_as x (stripe l.steps) (member j W) r d k) (same_head w at f g e).1
    ∙ ap (λ u. stripe_as (repetition_of f) (stripe l.steps) u r d k) (At-first j W (cut_value w at f v) (cut_values w (at + length (leaves f)) fs vs) there)
    ∙ h v r d k
    ∙ ap (λ u. stripe_as (repetition_of f) (stripe m.steps) u r d k) (sym (At-first i V v vs p))

first_like : (j i : ℕ) (f g : Field) → (name_of g ≡ name_of f) × (repetition_of g ≡ repetition_of f) → (l m : Leaf) → IsLike l m → IsLike (below j g l) (below i f m)
first_like j i f g e l m h =
    let up : repetitions (repetition_of g) + greatest_repetition l.steps ≡ repetitions (repetition_of f) + greatest_repetition m.steps =
    ap (λ x. repetitions x + greatest_repetition l.steps) e.1 ∙ ap (λ n. repetitions (repetition_of f) + n) h.repetition in
    let on : definitions (repetition_of g) + greatest_definition l.steps ≡ definitions (repetition_of f) + greatest_definition m.steps =
    ap (λ x. definitions x + greatest_definition l.steps) e.1 ∙ ap (λ n. definitions (repetition_of f) + n) h.definition in
    record {
      path = ap (λ n. n ∷ l.path) e.0 ∙ ap (λ t. name_of f ∷ t) h.path;
      leaf_type = h.leaf_type;
      long = ap suc h.long;
      repetition = up;
      definition = on;
      levels = (up, on);
    }

next_gives : (w : ℕ → Bool) (at j i : ℕ) (f g : Field) (fs : Fields) → Some g ≡ cut w at f → (l m : Leaf) → GivesFrom w (at + length (leaves f)) (suc j) (suc i) fs l m → GivesFrom w at j i (field f fs) l m
next_gives w at j i f g fs e l m h V W no_values p q r d k = h V W no_values (At-past i V p) (subst (At (suc j) W) (sym (cut-none w (at + length (leaves f)) fs)) (At-past j W q)) r d k
next_gives w at j i f g fs e l m h V W (item v vs) p q r d k =
    let there : At j W (item (cut_value w at f v) (cut_values w (at + length (leaves f)) fs vs)) =
    subst (λ o. At j W (kept_value o (cut_value w at f v) (cut_values w (at + length (leaves f)) fs vs))) (sym e) q in
    h V W vs (At-next i V v vs p) (At-next j W (cut_value w at f v) (cut_values w (at + length (leaves f)) fs vs) there) r d k

-- a field and what is behind it
both_kept : (w : ℕ → Bool) (at j i : ℕ) (f : Field) (fs : Fields) (o : Option Field) (rest : Fields) (ms more : List Leaf) → o ≡ cut w at f
    → Paired (SameAt w at f) (leaves_kept o) ms
    → ((j : ℕ) → Paired (SameFrom w (at + length (leaves f)) j (suc i) fs) (leaves_from j rest) more)
    → Paired (SameFrom w at j i (field f fs)) (leaves_from j (kept o rest)) (map (below i f) ms ++ more)
both_kept w at j i f fs None rest [] more e here behind =
    paired-more (SameFrom w (at + length (leaves f)) j (suc i) fs) (SameFrom w at j i (field f fs)) (leaves_from j rest) more (λ l m h. (h.0, none_gives w at j i f fs e l m h.1)) (behind j)
both_kept w at j i f fs None rest (m ∷ ms) more e here behind = absurd here
both_kept w at j i f fs (Some g) rest ms more e here behind =
    paired-both (SameFrom w at j i (field f fs)) (map (below j g) (leaves g)) (leaves_from (suc j) rest) (map (below i f) ms) more
    (paired-each (below j g) (below i f) (SameAt w at f) (SameFrom w at j i (field f fs)) (leaves g) ms (λ l m h. (first_like j i f g (same_head w at f g e) l m h.0, first_gives w at j i f g fs e l m h.1)) here)
    (paired-more (SameFrom w (at + length (leaves f)) (suc j) (suc i) fs) (SameFrom w at j i (field f fs)) (leaves_from (suc j) rest) more (λ l m h. (h.0, next_gives w at j i f g fs e l m h.1)) (behind (suc j)))

wanted_from : (w : ℕ → Bool) (at i : ℕ) (f : Field) (fs : Fields) → map (below i f) (wanted_of w at (leaves f)) ++ wanted_of w (at + length (leaves f)) (leaves_from (suc i) fs) ≡ wanted_of w at (leaves_from i (field f fs))
wanted_from w at i f fs =
    ap (λ t. t ++ wanted_of w (at + length (leaves f)) (leaves_from (suc i) fs)) (sym (wanted-map (below i f) w at (leaves f)))
    ∙ ap (λ n. wanted_of w at (map (below i f) (leaves f)) ++ wanted_of w (at + n) (leaves_from (suc i) fs)) (sym (length-each (below i f) (leaves f)))
    ∙ sym (wanted-both w at (map (below i f) (leaves f)) (leaves_from (suc i) fs))

one_leaf : (b : Bool) (n : List ℕ) (r : Repetition) (t : LeafType) (R : Leaf → Leaf → Type 0) → R (leaf_at [] [] t) (leaf_at [] [] t) → Paired R (leaves_kept (if b then Some (leaf n r t) else None)) (if b then leaf_at [] [] t ∷ [] else [])
one_leaf true n r t R h = (h, tt)
one_leaf false n r t R h = tt

group_leaves : (n : List ℕ) (r : Repetition) (a : Option GroupAnnotation) (fs : Fields) → leaves_from 0 fs ≡ leaves_kept (group_of n r a fs)
group_leaves n r a no_fields = refl
group_leaves n r a (field f fs) = refl

-- the leaves of the cut are the wanted ones, pair by pair
mutual
  leaves_same : (w : ℕ → Bool) (at : ℕ) (f : Field) → Paired (SameAt w at f) (leaves_kept (cut w at f)) (wanted_of w at (leaves f))
  leaves_same w at (leaf n r t) =
      one_leaf (w at) n r t (SameAt w at (leaf n r t)) (record { path = refl; leaf_type = refl; long = refl; repetition = refl; definition = refl; levels = (refl, refl) }, λ v r d k. refl)
  leaves_same w at (fields n r a fs) =
      subst (λ ls. Paired (SameAt w at (fields n r a fs)) ls (wanted_of w at (leaves_from 0 fs))) (group_leaves n r a (cut_each w at fs))
      (paired-more (SameFrom w at 0 0 fs) (SameAt w at (fields n r a fs)) (leaves_from 0 (cut_each w at fs)) (wanted_of w at (leaves_from 0 fs)) (group_same w at n r a fs) (each_same w at 0 0 fs))

  pub each_same : (w : ℕ → Bool) (at j i : ℕ) (fs : Fields) → Paired (SameFrom w at j i fs) (leaves_from j (cut_each w at fs)) (wanted_of w at (leaves_from i fs))
  each_same w at j i no_fields = tt
  each_same w at j i (field f fs) =
      subst (Paired (SameFrom w at j i (field f fs)) (leaves_from j (kept (cut w at f) (cut_each w (at + length (leaves f)) fs)))) (wanted_from w at i f fs)
      (both_kept w at j i f fs (cut w at f) (cut_each w (at + length (leaves f)) fs) (wanted_of w at (leaves f)) (wanted_of w (at + length (leaves f)) (leaves_from (suc i) fs)) refl
      (leaves_same w at f) (λ j. each_same w (at + length (leaves f)) j (suc i) fs))

column_same : (w : ℕ → Bool) (fs : Fields) (l m : Leaf) → GivesFrom w 0 0 0 fs l m → (rows : List ValueTrees) → column (map (cut_values w 0 fs) rows) l.steps ≡ column rows m.steps
column_same w fs l m h [] = refl
column_same w fs l m h (row ∷ rows) =
    ap (λ t. t ++ column (map (cut_values w 0 fs) rows) l.steps) (h (group row) (group (cut_values w 0 fs row)) row (At-whole row) (At-whole (cut_values w 0 fs row)) 0 0 0)
    ∙ ap (λ t. stripe m.steps (group row) 0 0 0 ++ t) (column_same w fs l m h rows)

pub cut_rows_have_columns : CutRowsHaveColumns
cut_rows_have_columns places fs rows =
    paired-map (λ l. column (cut_rows places fs rows) l.steps) (λ l. column rows l.steps) (SameFrom (is_among places) 0 0 0 fs) (leaves_of (cut_to places fs)) (wanted_of (is_among places) 0 (leaves_of fs))
    (λ l m h. column_same (is_among places) fs l m h.1 rows) (each_same (is_among places) 0 0 0 fs)
    ∙ sym (wanted-map (λ l. column rows l.steps) (is_among places) 0 (leaves_of fs))

like_shown : (l m : Leaf) → IsLike l m → shown l ≡ shown m
like_shown l m h =
    ap (λ p. record { path = p; leaf_type = l.leaf_type; greatest_repetition = l.greatest_repetition; greatest_definition = l.greatest_definition }) h.path
    ∙ ap (λ t. record { path = m.path; leaf_type = t; greatest_repetition = l.greatest_repetition; greatest_definition = l.greatest_definition }) h.leaf_type
    ∙ ap (λ n. record { path = m.path; leaf_type = m.leaf_type; greatest_repetition = n; greatest_definition = l.greatest_definition }) h.levels.0
    ∙ ap (λ n. record { path = m.path; leaf_type = m.leaf_type; greatest_repetition = m.greatest_repetition; greatest_definition = n }) h.levels.1

pub cut_has_leaves : CutHasLeaves
cut_has_leaves places fs = paired-map shown shown (SameFrom (is_among places) 0 0 0 fs) (leaves_of (cut_to places fs)) (wanted_of (is_among places) 0 (leaves_of fs)) (λ l m h. like_shown l m h.0) (each_same (is_among places) 0 0 0 fs)
