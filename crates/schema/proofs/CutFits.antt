-- Rows cut to some leaves fit the cut schema, which is a schema within the limits.
use Rattle.std.proofs.Common.{ℕ, max, ◌≡◌, ◌+◌, ◌≤◌, Bool, true, List, [], ◌∷◌, length, Option, Some, None, refl, ap, sym, subst, ◌∙◌, arith}
use Rattle.std.specs.Prelude.{IsTrue, ◌||◌, nat_eq}
use Rattle.std.specs.List.{AllByRecursion}
use Rattle.std.specs.Str.{is_utf8}
use Rattle.std.proofs.lemmas.Bool.{and_parts, false≢true, and_from as both_true}
use Rattle.schema.specs.declared.value.Repetition.{Repetition}
use Rattle.schema.specs.declared.value.Repetition.TheVariants.{Required, Optional, Repeated}
use Rattle.schema.specs.declared.annotation.GroupAnnotation.{GroupAnnotation}
use Rattle.schema.specs.Values.{ValueTree, null, boolean, integer, bytes, group, list, ValueTrees, no_values, value as item, each}
use Rattle.schema.specs.Shape.{Field, leaf, fields, Fields, no_fields, field, name_of}
use Rattle.schema.specs.Fits.{fits, fits_each, fits_as, is_group}
use Rattle.schema.specs.Stripe.{Leaf, leaves, leaves_from, leaves_of}
use Rattle.schema.specs.Law.{AllDiffer, names, IsFilled, IsGroupOf, IsValid, AreValid, IsSchema, IsWithinLimits}
use Rattle.schema.specs.Reading.{tall, tallest}
use Rattle.schema.specs.Cutting.{group_of, kept, cut, cut_each, is_among, cut_to, cut_items, cut_as, cut_group, kept_value, cut_value, cut_values, wanted_of, ArePlaces, CutRowsFit}
use Rattle.schema.proofs.Chosen.{wanted_some, wanted-all, wanted-length, Paired, paired-length, paired-none, paired-all}
use Rattle.schema.proofs.Cuts.{leaf_is, group_is, same_head, SameFrom, each_same}

items_fit : (P Q : ValueTrees → Bool) (c : ValueTrees → ValueTrees) → ((v : ValueTree) → is_group P v ≡ true → is_group Q (cut_group c v) ≡ true) → (vs : ValueTrees) → each (is_group P) vs ≡ true → each (is_group Q) (cut_items (cut_group c) vs) ≡ true
items_fit P Q c h no_values e = refl
items_fit P Q c h (item v vs) e =
    let parts = and_parts (is_group P v) (each (is_group P) vs) e in
    both_true _ _ (h v parts.0) (items_fit P Q c h vs parts.1)

group_fits : (P Q : ValueTrees → Bool) (c : ValueTrees → ValueTrees) → ((vs : ValueTrees) → P vs ≡ true → Q (c vs) ≡ true) → (v : ValueTree) → is_group P v ≡ true → is_group Q (cut_group c v) ≡ true
group_fits P Q c h null e = absurd (false≢true e)
group_fits P Q c h (boolean b) e = absurd (false≢true e)
group_fits P Q c h (integer z) e = absurd (false≢true e)
group_fits P Q c h (bytes x) e = absurd (false≢true e)
group_fits P Q c h (list vs) e = absurd (false≢true e)
group_fits P Q c h (group vs) e = h vs e

as_fits : (x : Repetition) (P Q : ValueTrees → Bool) (c : ValueTrees → ValueTrees) → ((vs : ValueTrees) → P vs ≡ true → Q (c vs) ≡ true)
    → (v : ValueTree) → fits_as x (is_group P) v ≡ true → fits_as x (is_group Q) (cut_as x (cut_group c) v) ≡ true
as_fits Required P Q c h v e = group_fits P Q c h v e
as_fits Optional P Q c h null e = refl
as_fits Optional P Q c h (boolean b) e = absurd (false≢true e)
as_fits Optional P Q c h (integer z) e = absurd (false≢true e)
as_fits Optional P Q c h (bytes x) e = absurd (false≢true e)
as_fits Optional P Q c h (group vs) e = h vs e
as_fits Optional P Q c h (list vs) e = absurd (false≢true e)
as_fits Repeated P Q c h null e = absurd (false≢true e)
as_fits Repeated P Q c h (boolean b) e = absurd (false≢true e)
as_fits Repeated P Q c h (integer z) e = absurd (false≢true e)
as_fits Repeated P Q c h (bytes x) e = absurd (false≢true e)
as_fits Repeated P Q c h (group vs) e = absurd (false≢true e)
as_fits Repeated P Q c h (list vs) e = items_fit P Q c (group_fits P Q c h) vs e

behind_fit : (o : Option Field) (rest : Fields) (v : ValueTree) (vs : ValueTrees) → ((g : Field) → Some g ≡ o → fits g v ≡ true) → fits_each rest vs ≡ true → fits_each (kept o rest) (kept_value o v vs) ≡ true
behind_fit None rest v vs h e = e
behind_fit (Some g) rest v vs h e = both_true _ _ (h g refl) e

mutual
  cut_fits : (w : ℕ → Bool) (at : ℕ) (f : Field) (v : ValueTree) → fits f v ≡ true → (g : Field) → Some g ≡ cut w at f → fits g (cut_value w at f v) ≡ true
  cut_fits w at (leaf n r t) v e g k = ap (λ x. fits x v) (leaf_is (w at) (leaf n r t) g k) ∙ e
  cut_fits w at (fields n r a fs) v e g k =
      ap (λ x. fits x (cut_value w at (fields n r a fs) v)) (group_is w at n r a fs g k)
      ∙ as_fits r (fits_each fs) (fits_each (cut_each w at fs)) (cut_values w at fs) (each_cut_fits w at fs) v e

  each_cut_fits : (w : ℕ → Bool) (at : ℕ) (fs : Fields) (vs : ValueTrees) → fits_each fs vs ≡ true → fits_each (cut_each w at fs) (cut_values w at fs vs) ≡ true
  each_cut_fits w at no_fields no_values e = refl
  each_cut_fits w at no_fields (item v vs) e = absurd (false≢true e)
  each_cut_fits w at (field f fs) no_values e = absurd (false≢true e)
  each_cut_fits w at (field f fs) (item v vs) e =
      let parts = and_parts (fits f v) (fits_each fs vs) e in
      behind_fit (cut w at f) (cut_each w (at + length (leaves f)) fs) (cut_value w at f v) (cut_values w (at + length (leaves f)) fs vs)
      (λ g k. cut_fits w at f v parts.0 g k) (each_cut_fits w (at + length (leaves f)) fs vs parts.1)

pub cut_rows_fit : CutRowsFit
cut_rows_fit places fs [] h = tt
cut_rows_fit places fs (row ∷ rows) h = (each_cut_fits (is_among places) 0 fs row h.0, cut_rows_fit places fs rows h.1)

-- the names of what is kept are among the names
kept_names : (P : List ℕ → Type 0) (w : ℕ → Bool) (at : ℕ) (f : Field) (o : Option Field) (rest : Fields) → o ≡ cut w at f → P (name_of f) → AllByRecursion P (names rest) → AllByRecursion P (names (kept o rest))
kept_names P w at f None rest e h k = k
kept_names P w at f (Some g) rest e h k = (subst P (sym (same_head w at f g e).0) h, k)

names_kept : (P : List ℕ → Type 0) (w : ℕ → Bool) (at : ℕ) (fs : Fields) → AllByRecursion P (names fs) → AllByRecursion P (names (cut_each w at fs))
names_kept P w at no_fields h = tt
names_kept P w at (field f fs) h = kept_names P w at f (cut w at f) (cut_each w (at + length (leaves f)) fs) refl h.0 (names_kept P w (at + length (leaves f)) fs h.1)

still_differ : (w : ℕ → Bool) (at : ℕ) (f : Field) (o : Option Field) (rest : Fields) → o ≡ cut w at f → AllByRecursion (λ m. name_of f ≡ m → ⊥) (names rest) → AllDiffer (names rest) → AllDiffer (names (kept o rest))
still_differ w at f None rest e h k = k
still_differ w at f (Some g) rest e h k = (subst (λ n. AllByRecursion (λ m. n ≡ m → ⊥) (names rest)) (sym (same_head w at f g e).0) h, k)

names_differ : (w : ℕ → Bool) (at : ℕ) (fs : Fields) → AllDiffer (names fs) → AllDiffer (names (cut_each w at fs))
names_differ w at no_fields h = tt
names_differ w at (field f fs) h =
    still_differ w at f (cut w at f) (cut_each w (at + length (leaves f)) fs) refl
    (names_kept (λ m. name_of f ≡ m → ⊥) w (at + length (leaves f)) fs h.0) (names_differ w (at + length (leaves f)) fs h.1)

cut_group_of : (w : ℕ → Bool) (at : ℕ) (fs : Fields) → IsGroupOf fs → IsFilled (cut_each w at fs) → IsGroupOf (cut_each w at fs)
cut_group_of w at fs h some = record { some = some; differ = names_differ w at fs h.differ; text = names_kept (λ n. IsTrue (is_utf8 n)) w at fs h.text }

filled : (n : List ℕ) (r : Repetition) (a : Option GroupAnnotation) (fs : Fields) (g : Field) → Some g ≡ group_of n r a fs → IsFilled fs
filled n r a no_fields g e = cc
filled n r a (field f fs) g e = tt

valid_kept : (o : Option Field) (rest : Fields) → ((g : Field) → Some g ≡ o → IsValid g) → AreValid rest → AreValid (kept o rest)
valid_kept None rest h k = k
valid_kept (Some g) rest h k = (h g refl, k)

mutual
  cut_valid : (w : ℕ → Bool) (at : ℕ) (f : Field) → IsValid f → (g : Field) → Some g ≡ cut w at f → IsValid g
  cut_valid w at (leaf n r t) h g e = subst IsValid (sym (leaf_is (w at) (leaf n r t) g e)) h
  cut_valid w at (fields n r a fs) h g e =
      subst IsValid (sym (group_is w at n r a fs g e)) (cut_group_of w at fs h.0 (filled n r a (cut_each w at fs) g e), each_cut_valid w at fs h.1)

  each_cut_valid : (w : ℕ → Bool) (at : ℕ) (fs : Fields) → AreValid fs → AreValid (cut_each w at fs)
  each_cut_valid w at no_fields h = tt
  each_cut_valid w at (field f fs) h = valid_kept (cut w at f) (cut_each w (at + length (leaves f)) fs) (λ g e. cut_valid w at f h.0 g e) (each_cut_valid w (at + length (leaves f)) fs h.1)

some_field : (R : Leaf → Leaf → Type 0) (ms : List Leaf) (gs : Fields) → (ms ≡ [] → ⊥) → Paired R (leaves_from 0 gs) ms → IsFilled gs
some_field R ms no_fields h p = h (paired-none R ms p)
some_field R ms (field g gs) h p = tt

same_true : (n : ℕ) (b : Bool) → nat_eq n n || b ≡ true
same_true n b = grind arith

-- a leaf is wanted, so that there is one
some_kept : (places : List ℕ) (fs : Fields) → ArePlaces fs places → IsFilled (cut_to places fs)
some_kept [] fs h = let none = h.some in absurd (omega (arith, none))
some_kept (place ∷ places) fs h =
    let w : ℕ → Bool = is_among (place ∷ places) in
    let same : 0 + place ≡ place = omega arith in
    some_field (SameFrom w 0 0 0 fs) (wanted_of w 0 (leaves_of fs)) (cut_to (place ∷ places) fs)
    (wanted_some w 0 place (leaves_of fs) h.there.0 (ap w same ∙ same_true place (is_among places place))) (each_same w 0 0 0 fs)

-- the cut schema is one
pub cut_schema : (places : List ℕ) (fs : Fields) → IsSchema fs → ArePlaces fs places → IsSchema (cut_to places fs)
cut_schema places fs h p = (cut_group_of (is_among places) 0 fs h.0 (some_kept places fs p), each_cut_valid (is_among places) 0 fs h.1)

-- and it is no larger
pub cut_within : (places : List ℕ) (fs : Fields) → IsWithinLimits fs → IsWithinLimits (cut_to places fs)
cut_within places fs h =
    let w : ℕ → Bool = is_among places in
    let pairs = each_same w 0 0 0 fs in
    let n = paired-length (SameFrom w 0 0 0 fs) (leaves_of (cut_to places fs)) (wanted_of w 0 (leaves_of fs)) pairs in
    let m = wanted-length w 0 (leaves_of fs) in
    let few = h.leaves in
    record {
      leaves = omega (arith, n, m, few);
      depth = paired-all (SameFrom w 0 0 0 fs) (λ (l : Leaf). length l.steps ≤ 32) (λ (l : Leaf). length l.steps ≤ 32) (leaves_of (cut_to places fs)) (wanted_of w 0 (leaves_of fs))
          (λ l m r q. let e = r.0.long in omega (arith, e, q)) pairs (wanted-all (λ (l : Leaf). length l.steps ≤ 32) w 0 (leaves_of fs) h.depth);
    }

tall_kept : (o : Option Field) (rest : Fields) (a b : ℕ) → ((g : Field) → Some g ≡ o → tall g ≤ a) → tallest rest ≤ b → tallest (kept o rest) ≤ max a b
tall_kept None rest a b h k = omega (arith, k)
tall_kept (Some g) rest a b h k = let n = h g refl in omega (arith, n, k)

mutual
  cut_short : (w : ℕ → Bool) (at : ℕ) (f g : Field) → Some g ≡ cut w at f → tall g ≤ tall f
  cut_short w at (leaf n r t) g e = let same = ap tall (leaf_is (w at) (leaf n r t) g e) in omega (arith, same)
  cut_short w at (fields n r a fs) g e = let same = ap tall (group_is w at n r a fs g e) in let k = each_cut_short w at fs in omega (arith, same, k)

  pub each_cut_short : (w : ℕ → Bool) (at : ℕ) (fs : Fields) → tallest (cut_each w at fs) ≤ tallest fs
  each_cut_short w at no_fields = omega arith
  each_cut_short w at (field f fs) = tall_kept (cut w at f) (cut_each w (at + length (leaves f)) fs) (tall f) (tallest fs) (λ g e. cut_short w at f g e) (each_cut_short w (at + length (leaves f)) fs)
