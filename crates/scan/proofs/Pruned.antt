-- What a root knows of a group is true of its rows.
use Rattle.std.proofs.Common.{◌≡◌, ℕ, zero, suc, ◌+◌, ◌-◌, false, nat_lt, List, [], ◌∷◌, ◌++◌, length, map, Option, Some, None, refl, ap, sym, ◌∙◌, subst, arith, zero-add}
use Rattle.std.specs.Prelude.{IfSome, count_by}
use Rattle.std.specs.List.{slice_get, AllByRecursion}
use Rattle.std.proofs.lemmas.List.{length-map}
use Rattle.std.proofs.lemmas.List.Concat.{flat_map-cons}
use Rattle.lists.proofs.Lists.{all_weaker as all_map}
use Rattle.schema.specs.declared.value.Repetition.{Repetition}
use Rattle.schema.specs.declared.order.Order.{Order}
use Rattle.schema.specs.Annotations.{LeafType, order_of}
use Rattle.schema.specs.Values.{ValueTree, group, ValueTrees, member_at}
use Rattle.schema.specs.Shape.{Field, Fields, repetition_of}
use Rattle.schema.specs.Stripe.{Step, Leaf, Entry, leaves, leaves_of, leaf_at, below, stripe, stripe_as, column}
use Rattle.statistics.specs.Bounds.{Statistics, Known, Bounds}
use Rattle.schema.specs.Keys.{KeyColumn, AreKeys, key_field, places_of, field_at, without_keys, key_of_row, AreRowsOf}
use Rattle.manifest.specs.Groups.{Group}
use Rattle.schema.specs.Fronts.{padded}
use Rattle.statistics.specs.Absent.{known_over}
use Rattle.manifest.specs.Laws.{KnownOfPartsHolds}
use Rattle.manifest.specs.Parts.{HaveBounds, PartMeans}
use Rattle.manifest.specs.Records.{IsGroup}
use Rattle.filter.specs.Test.{Test, steps_of, value_at, value_of}
use Rattle.filter.specs.RuledOut.{key_at, given_or_absent, statistics_at}
use Rattle.filter.specs.Law.{Describes, CompletedIsTheSame, RuledOutHoldsNoRow}
use Rattle.scan.specs.Selected.{RuledOutGroupsHoldNone}
use Rattle.schema.proofs.LeafPlaces.{moved, count_gone, leaves_before, value_moved, field_stays, IsAt, leaf_is_at, leaf_stands, count_places}
use Rattle.filter.proofs.TermTests.{IsTestOf, tests_are_of}
use Rattle.scan.proofs.KeyValues.{gone_of, key_found, one_leaf, key_value, key_some, key_none}

-- ---- columns of rows with and without keys

abbrev step : ℕ → Repetition → Step
step p r = record { place = p; repetition = r }

same_column : (keys : List KeyColumn) (key : List ValueTree) (p : ℕ) (r : Repetition) (way : List Step) → gone_of keys (0 + p) ≡ false → (stored rows : List ValueTrees) → AreRowsOf keys key stored rows
    → column stored (step (moved (gone_of keys) 0 p) r ∷ way) ≡ column rows (step p r ∷ way)
same_column keys key p r way kept [] [] h = refl
same_column keys key p r way kept [] (row ∷ rows) h = absurd h
same_column keys key p r way kept (s ∷ stored) [] h = absurd h
same_column keys key p r way kept (s ∷ stored) (row ∷ rows) h =
    let m = moved (gone_of keys) 0 p in
    let value : member_at m s ≡ member_at p row = ap (member_at m) (sym h.0.besides) ∙ value_moved (gone_of keys) 0 p row kept in
    let first : stripe (step m r ∷ way) (group s) 0 0 0 ≡ stripe (step p r ∷ way) (group row) 0 0 0 = ap (λ (v : ValueTree). stripe_as r (stripe way) v 0 0 0) value in
    flat_map-cons (λ (x : ValueTrees). stripe (step m r ∷ way) (group x) 0 0 0) s stored
    ∙ (λ i. first i ++ same_column keys key p r way kept stored rows h.1 i)
    ∙ sym (flat_map-cons (λ (x : ValueTrees). stripe (step p r ∷ way) (group x) 0 0 0) row rows)

-- what is known of a leaf holds of its column
known_of_leaf : (stored : List ValueTrees) (count : ℕ) (ls : List Leaf) (ss : List Statistics) → HaveBounds ls ss (map (λ (l : Leaf). column stored l.steps) ls)
    → (k : ℕ) (l : Leaf) → slice_get ls k ≡ Some l → Bounds (order_of l.leaf_type) (given_or_absent count (slice_get ss k)) (column stored l.steps)
known_of_leaf stored count [] ss h k l at = absurd (cc)
known_of_leaf stored count (x ∷ ls) [] h k l at = absurd h
known_of_leaf stored count (x ∷ ls) (y ∷ ss) h zero l at =
    let one : x ≡ l = cc in
    subst (λ (z : Leaf). Bounds (order_of z.leaf_type) y (column stored z.steps)) one h.0
known_of_leaf stored count (x ∷ ls) (y ∷ ss) h (suc k) l at = known_of_leaf stored count ls ss h.1 k l at

pub same_length : (keys : List KeyColumn) (key : List ValueTree) (stored rows : List ValueTrees) → AreRowsOf keys key stored rows → length stored ≡ length rows
same_length keys key [] [] h = refl
same_length keys key [] (r ∷ rows) h = absurd h
same_length keys key (s ∷ stored) [] h = absurd h
same_length keys key (s ∷ stored) (r ∷ rows) h = ap suc (same_length keys key stored rows h.1)

-- each row has the key
each_keyed : (P : ValueTrees → Type 0) (keys : List KeyColumn) (key : List ValueTree) → ((row : ValueTrees) → key_of_row keys row ≡ key → P row) → (stored rows : List ValueTrees) → AreRowsOf keys key stored rows → AllByRecursion P rows
each_keyed P keys key f [] [] h = tt
each_keyed P keys key f [] (r ∷ rows) h = absurd h
each_keyed P keys key f (s ∷ stored) [] h = absurd h
each_keyed P keys key f (s ∷ stored) (r ∷ rows) h = (f r h.0.keyed, each_keyed P keys key f stored rows h.1)

-- ---- one test

pub one_own : (t : LeafType) (n : ℕ) (l : Leaf) → slice_get (leaf_at [] [] t ∷ []) n ≡ Some l → l.steps ≡ []
one_own t zero l h = let e : leaf_at [] [] t ≡ l = cc in ap (λ (x : Leaf). x.steps) (sym e)
one_own t (suc n) l h = absurd (cc)

module _ (law : KnownOfPartsHolds) (keys : List KeyColumn) (fs : Fields) (g : Group) (bytes : List ℕ) (rows : List ValueTrees) (are : AreKeys keys fs) (group_is : IsGroup keys (without_keys keys fs) g) (part : PartMeans keys (without_keys keys fs) g bytes rows)
    (first : ValueTrees) (has : key_of_row keys first ≡ g.key) (t : Test) (of : IsTestOf (leaves_of fs) t) where
  abbrev stored : List ValueTrees
  stored = map (padded (without_keys keys fs)) part.stored

  abbrev known : Known
  known = known_over (length (leaves_of (without_keys keys fs))) g.known

  at : IsAt 0 t.leaf fs of.leaf
  at = leaf_is_at 0 t.leaf fs of.leaf of.there

  way : step (0 + at.place) (repetition_of at.of) ∷ at.own.steps ≡ steps_of t
  way = ap (λ (l : Leaf). l.steps) (sym at.is) ∙ of.way

  place : t.first.place ≡ at.place
  place = let e : step (0 + at.place) (repetition_of at.of) ≡ t.first = (let w = way in cc) in ap (λ (s : Step). s.place) (sym e) ∙ zero-add at.place

  rest : t.rest ≡ at.own.steps
  rest = let w = way in cc

  keyed_by : (k : Option ValueTree) → key_at (places_of keys) g.key t.first.place ≡ k → IfSome k (λ v. AllByRecursion (λ row. value_of t row ≡ v) rows)
  keyed_by None e = tt
  keyed_by (Some v) e =
      let goes = key_some keys first t.first.place v (ap (λ (key : List ValueTree). key_at (places_of keys) key t.first.place) has ∙ e) in
      let key = key_found keys fs are.there t.first.place goes in
      let there : field_at t.first.place fs ≡ Some at.of = ap (λ (n : ℕ). field_at n fs) place ∙ at.there in
      let both : Some at.of ≡ Some (key_field key.column) = sym there ∙ key.there in
      let same : at.of ≡ key_field key.column = cc in
      let own : at.own.steps ≡ [] = one_own _ at.inner at.own (subst (λ (f : Field). slice_get (leaves f) at.inner ≡ Some at.own) same at.among) in
      let none : t.rest ≡ [] = rest ∙ own in
      each_keyed (λ row. value_of t row ≡ v) keys g.key (λ row is.
      ap (λ (w : List Step). value_at w (member_at t.first.place row)) none
      ∙ sym (key_value keys row t.first.place v (ap (λ (key : List ValueTree). key_at (places_of keys) key t.first.place) is ∙ e))) stored rows part.keyed

  kept_by : key_at (places_of keys) g.key t.first.place ≡ None → gone_of keys (0 + at.place) ≡ false
  kept_by e =
      ap (gone_of keys) (zero-add at.place ∙ sym place)
      ∙ key_none keys first t.first.place (ap (λ (key : List ValueTree). key_at (places_of keys) key t.first.place) has ∙ e)

  bounded_by : key_at (places_of keys) g.key t.first.place ≡ None → Bounds t.order (statistics_at (places_of keys) known t) (column rows (steps_of t))
  bounded_by e =
      let kept = kept_by e in
      let stays = field_stays (gone_of keys) 0 at.place fs at.of (one_leaf keys fs are) at.there kept in
      let m = moved (gone_of keys) 0 at.place in
      let here : ℕ = leaves_before m (without_keys keys fs) + at.inner in
      let stands = leaf_stands 0 m at.inner (without_keys keys fs) at.of at.own stays.there at.among in
      let counts : count_by (λ a. nat_lt a t.first.place) (places_of keys) ≡ count_gone (gone_of keys) 0 at.place
      = ap (λ (n : ℕ). count_by (λ a. nat_lt a n) (places_of keys)) place ∙ count_places (places_of keys) are.distinct at.place in
      let index : t.leaf - count_by (λ a. nat_lt a t.first.place) (places_of keys) ≡ leaves_before m (without_keys keys fs) + at.inner = omega (arith, counts, stays.counted, at.counted) in
      let bound = known_of_leaf stored known.rows (leaves_of (without_keys keys fs)) known.leaves (law keys (without_keys keys fs) g bytes rows group_is.file part) here (below (0 + m) at.of at.own) stands in
      let order : order_of at.own.leaf_type ≡ t.order = ap (λ (l : Leaf). order_of l.leaf_type) (sym at.is) ∙ sym of.order in
      let same : column stored (step (0 + m) (repetition_of at.of) ∷ at.own.steps) ≡ column rows (steps_of t)
      = ap (λ (n : ℕ). column stored (step n (repetition_of at.of) ∷ at.own.steps)) (zero-add m)
      ∙ same_column keys g.key at.place (repetition_of at.of) at.own.steps kept stored rows part.keyed
      ∙ ap (λ (n : ℕ). column rows (step n (repetition_of at.of) ∷ at.own.steps)) (sym (zero-add at.place))
      ∙ ap (column rows) way in
      let known_here = λ (n : ℕ). given_or_absent known.rows (slice_get known.leaves n) in
      let as_ordered = subst (λ (o : Option Order). Bounds o (known_here here) (column stored (step (0 + m) (repetition_of at.of) ∷ at.own.steps))) order bound in
      subst (λ (n : ℕ). Bounds t.order (known_here n) (column rows (steps_of t))) (sym index) (subst (λ (es : List Entry). Bounds t.order (known_here here) es) same as_ordered)

  pub described : Describes (places_of keys) g.key known rows t
  described = record {
    single = of.single;
    counted = sym part.holds.count ∙ sym (length-map part.stored (padded (without_keys keys fs))) ∙ same_length keys g.key stored rows part.keyed;
    keyed = keyed_by (key_at (places_of keys) g.key t.first.place) refl;
    bounded = bounded_by;
  }

pub first_keyed : (keys : List KeyColumn) (key : List ValueTree) (stored : List ValueTrees) (row : ValueTrees) (rows : List ValueTrees) → AreRowsOf keys key stored (row ∷ rows) → key_of_row keys row ≡ key
first_keyed keys key [] row rows h = absurd h
first_keyed keys key (s ∷ _) row rows h = h.0.keyed

pub ruled_out_groups_hold_none : KnownOfPartsHolds → CompletedIsTheSame → RuledOutHoldsNoRow → RuledOutGroupsHoldNone
ruled_out_groups_hold_none law completed sound keys fs g bytes [] tests are over group_is part out = tt
ruled_out_groups_hold_none law completed sound keys fs g bytes (row ∷ rows) tests are over group_is part out =
    let leaves = length (leaves_of (without_keys keys fs)) in
    let known = known_over leaves g.known in
    let has = first_keyed keys g.key (map (padded (without_keys keys fs)) part.stored) row rows part.keyed in
    let each = tests_are_of (leaves_of fs) over.0 tests over.1 in
    sound tests (places_of keys) g.key known (row ∷ rows)
    (all_map (AllByRecursion (IsTestOf (leaves_of fs))) (AllByRecursion (Describes (places_of keys) g.key known (row ∷ rows)))
    (λ terms h. all_map (IsTestOf (leaves_of fs)) (Describes (places_of keys) g.key known (row ∷ rows)) (λ t of. described law keys fs g bytes (row ∷ rows) are group_is part row has t of) terms h) tests each)
    ((completed tests (places_of keys) g.key g.known leaves).1 out)
