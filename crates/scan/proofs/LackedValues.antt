-- What the rows of a group have in columns that its file lacks: the key's value, or null.
use Rattle.std.proofs.Common.{◌≡◌, ◌≤◌, ◌+◌, ◌-◌, ℕ, suc, Bool, true, false, not, ◌&&◌, ◌||◌, nat_eq, nat_lt, List, [], ◌∷◌, map, Option, Some, None, refl, ap, sym, subst, ◌∙◌, arith, zero-add, eqb-true}
use Rattle.std.specs.Prelude.{cond, unwrap_or}
use Rattle.std.specs.List.{slice_get, AllByRecursion}
use Rattle.std.proofs.lemmas.Bool.{false≢true}
use Rattle.std.proofs.lemmas.Bool.Decides.{nat_tests}
use Rattle.schema.specs.Values.{ValueTree, ValueTrees, null, group, member_at}
use Rattle.schema.specs.Shape.{Field, Fields}
use Rattle.schema.specs.Fits.{fits_each, RowsFit}
use Rattle.schema.specs.Stripe.{Step, Leaf, leaves, leaves_of}
use Rattle.schema.specs.Keys.{KeyColumn, AreKeys, places_of, key_field, without_keys, key_of_row, IsRowOf, AreRowsOf}
use Rattle.schema.proofs.LeafPlaces.{moved, count_gone, value_moved, IsAt, leaf_is_at, count_places}
use Rattle.filter.specs.Test.{value_at}
use Rattle.filter.specs.RuledOut.{key_at}
use Rattle.schema.specs.Fronts.{first_fields, padded}
use Rattle.scan.specs.Cost.{place_of, keys_before, is_stored}
use Rattle.scan.specs.inner.Fills.{given}
use Rattle.scan.specs.inner.Marks.{HaveCells, HaveFills}
use Rattle.scan.proofs.KeyValues.{gone_of, key_found}
use Rattle.scan.proofs.Pruned.{one_own}
use Rattle.scan.proofs.StoredPlaces.{null_at, moved_is}

-- ---- by the key

key_given : (keys : List KeyColumn) (row : ValueTrees) (p : ℕ) → gone_of keys p ≡ true → given (places_of keys) (key_of_row keys row) p ≡ member_at p row
key_given [] row p h = absurd (false≢true h)
key_given (k ∷ keys) row p h = by (nat_eq k.at p) refl h (key_given keys row p)
  where
    by : (b : Bool) → nat_eq k.at p ≡ b → (b || gone_of keys p) ≡ true → (gone_of keys p ≡ true → given (places_of keys) (key_of_row keys row) p ≡ member_at p row)
        → unwrap_or (cond b (Some (member_at k.at row)) (key_at (places_of keys) (key_of_row keys row) p)) null ≡ member_at p row
    by true e h more = ap (λ (n : ℕ). member_at n row) (eqb-true k.at p e)
    by false e h more = more h

not_given : (keys : List KeyColumn) (key : List ValueTree) (p : ℕ) → gone_of keys p ≡ false → given (places_of keys) key p ≡ null
not_given keys key p h = ap (λ (o : Option ValueTree). unwrap_or o null) (none keys key h)
  where
    none : (keys : List KeyColumn) (key : List ValueTree) → gone_of keys p ≡ false → key_at (places_of keys) key p ≡ None
    none [] key h = refl
    none (k ∷ keys) [] h = refl
    none (k ∷ keys) (v ∷ key) h = by (nat_eq k.at p) h (none keys key)
      where
        by : (b : Bool) → (b || gone_of keys p) ≡ false → (gone_of keys p ≡ false → key_at (places_of keys) key p ≡ None) → cond b (Some v) (key_at (places_of keys) key p) ≡ None
        by true h more = absurd (false≢true (sym h))
        by false h more = more h

-- ---- one column

not_less : (a b : ℕ) → nat_lt a b ≡ false → b ≤ a
not_less a b h = grind (arith, nat_tests)

module _ (keys : List KeyColumn) (fs : Fields) (width : ℕ) (key : List ValueTree) (are : AreKeys keys fs) where
  abbrev others : Fields
  others = without_keys keys fs

  value_given : (place : ℕ) → is_stored (places_of keys) width place ≡ false → (s row : ValueTrees) → fits_each (first_fields width others) s ≡ true → IsRowOf keys key (padded others s) row
      → member_at place row ≡ given (places_of keys) key place
  value_given place away s row fit h = by (gone_of keys place) refl
    where
      by : (b : Bool) → gone_of keys place ≡ b → member_at place row ≡ given (places_of keys) key place
      by true e = sym (key_given keys row place e) ∙ ap (λ (vs : List ValueTree). given (places_of keys) vs place) h.keyed
      by false e =
          let m = moved (gone_of keys) 0 place in
          let kept : gone_of keys (0 + place) ≡ false = ap (gone_of keys) (zero-add place) ∙ e in
          let beyond : nat_lt (place - keys_before (places_of keys) place) width ≡ false = ap (λ (b : Bool). not b && nat_lt (place - keys_before (places_of keys) place) width) (sym e) ∙ away in
          let le = not_less (place - keys_before (places_of keys) place) width beyond in
          let before : keys_before (places_of keys) place ≡ count_gone (gone_of keys) 0 place = count_places (places_of keys) are.distinct place in
          let all = moved_is (gone_of keys) 0 place in
          sym (value_moved (gone_of keys) 0 place row kept) ∙ ap (member_at m) h.besides ∙ null_at others s m width (omega (arith, le, before, all)) fit ∙ sym (not_given keys key place e)

  values_given : (place : ℕ) → is_stored (places_of keys) width place ≡ false → (stored rows : List ValueTrees) → RowsFit (first_fields width others) stored → AreRowsOf keys key (map (padded others) stored) rows
      → AllByRecursion (λ row. member_at place row ≡ given (places_of keys) key place) rows
  values_given place away [] [] fit h = tt
  values_given place away [] (row ∷ rows) fit h = absurd h
  values_given place away (s ∷ stored) [] fit h = absurd h
  values_given place away (s ∷ stored) (row ∷ rows) fit h = (value_given place away s row fit.0 h.0, values_given place away stored rows fit.1 h.1)

  pub have_fills : (stored rows : List ValueTrees) → RowsFit (first_fields width others) stored → AreRowsOf keys key (map (padded others) stored) rows → HaveFills (places_of keys) key width rows
  have_fills stored rows fit h place away = values_given place away stored rows fit h

  -- ---- at a leaf of it

  null_below : (steps : List Step) → value_at steps null ≡ null
  null_below [] = refl
  null_below (s ∷ steps) = null_below steps

  -- the value at the leaf is that of its column
  leaf_given : (n : ℕ) (l : Leaf) → slice_get (leaves_of fs) n ≡ Some l → (row : ValueTrees) → member_at (place_of l.steps) row ≡ given (places_of keys) key (place_of l.steps)
      → value_at l.steps (group row) ≡ given (places_of keys) key (place_of l.steps)
  leaf_given n l among row is =
      let at = leaf_is_at 0 n fs l among in
      subst (λ (x : Leaf). value_at x.steps (group row) ≡ given (places_of keys) key (place_of x.steps)) (sym at.is)
      (by at (gone_of keys at.place) refl (subst (λ (x : Leaf). member_at (place_of x.steps) row ≡ given (places_of keys) key (place_of x.steps)) at.is is))
    where
      by : (at : IsAt 0 n fs l) (b : Bool) → gone_of keys at.place ≡ b → member_at (0 + at.place) row ≡ given (places_of keys) key (0 + at.place)
          → value_at at.own.steps (member_at (0 + at.place) row) ≡ given (places_of keys) key (0 + at.place)
      by at true e is =
          let column = key_found keys fs are.there at.place e in
          let both : Some at.of ≡ Some (key_field column.column) = sym at.there ∙ column.there in
          let same : at.of ≡ key_field column.column = cc in
          let own : at.own.steps ≡ [] = one_own _ at.inner at.own (subst (λ (f : Field). slice_get (leaves f) at.inner ≡ Some at.own) same at.among) in
          ap (λ (w : List Step). value_at w (member_at (0 + at.place) row)) own ∙ is
      by at false e is =
          let none : given (places_of keys) key (0 + at.place) ≡ null = not_given keys key (0 + at.place) (ap (gone_of keys) (zero-add at.place) ∙ e) in
          ap (value_at at.own.steps) (is ∙ none) ∙ null_below at.own.steps ∙ sym none

  abbrev GivenAt : List ValueTrees → Leaf → Type 0
  GivenAt rows l = is_stored (places_of keys) width (place_of l.steps) ≡ false → AllByRecursion (λ row. value_at l.steps (group row) ≡ given (places_of keys) key (place_of l.steps)) rows

  each_row : (n : ℕ) (l : Leaf) → slice_get (leaves_of fs) n ≡ Some l → (rows : List ValueTrees) → AllByRecursion (λ row. member_at (place_of l.steps) row ≡ given (places_of keys) key (place_of l.steps)) rows
      → AllByRecursion (λ row. value_at l.steps (group row) ≡ given (places_of keys) key (place_of l.steps)) rows
  each_row n l among [] h = tt
  each_row n l among (row ∷ rows) h = (leaf_given n l among row h.0, each_row n l among rows h.1)

  pub have_cells : (rows : List ValueTrees) → HaveFills (places_of keys) key width rows → HaveCells (places_of keys) key width (leaves_of fs) rows
  have_cells rows fills = each_leaf (leaves_of fs) (λ n l among away. each_row n l among rows (fills (place_of l.steps) away))
    where
      each_leaf : (ls : List Leaf) → ((n : ℕ) (l : Leaf) → slice_get ls n ≡ Some l → GivenAt rows l) → AllByRecursion (GivenAt rows) ls
      each_leaf [] f = tt
      each_leaf (l ∷ ls) f = (f 0 l refl, each_leaf ls (λ n x at. f (suc n) x at))
