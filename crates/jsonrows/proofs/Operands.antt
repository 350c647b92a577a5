-- Arrays of a filter, item by item, and the leaf of a term.
use Rattle.std.proofs.Common.{Bool, ◌≡◌, ◌≢◌, ℕ, ◌+◌, ◌<◌, true, List, [], ◌∷◌, length, get_or, map, drop, Option, Some, Vec, Global, Result, Err, refl, sym, ap, ◌∙◌}
use Rattle.std.specs.Str.{bytes_eq}
use Rattle.std.specs.Cmp.Lexicographic.{pointwise, pointwise_decides, bytes_decides}
use Rattle.std.proofs.lemmas.Bool.{false_from_ne_true as not_true}
use Rattle.lists.proofs.Slices.{map_drop_here as reads}
use Rattle.bits.specs.declared.refusal.Refusal.{Refusal}
use Rattle.bits.specs.declared.refusal.Refusal.TheVariants.{Memory}
use Rattle.bits.specs.Refusals.{HasCause}
use Rattle.serde_json.specs.Data.{Data, array, Items, no_items, item}
use Rattle.serde_json.specs.View.{view, items_of, items_view}
use Rattle.serde_json.specs.declared.value.Value.{Value, Array}
use Rattle.serde_json.proofs.Views.{view-Array}
use Rattle.schema.specs.declared.field.Leaf.{Leaf as CodeLeaf}
use Rattle.schema.specs.Annotations.{LeafType}
use Rattle.schema.specs.Values.{ValueTree}
use Rattle.schema.specs.Views.{leaf_view}
use Rattle.filter.specs.Terms.{then_rest, each_of}
use Rattle.jsonrows.specs.Filters.{listed, leaf_named, list_value, value_of_as, values_of_as}

listed-of : (ds : List Data) → listed (items_of ds) ≡ ds
listed-of [] = refl
listed-of (d ∷ ds) = ap (λ xs. d ∷ xs) (listed-of ds)

pub listed-view : (vs : List Value) → listed (items_view vs) ≡ map view vs
listed-view vs = listed-of (map view vs)

-- what is found of an array is found of its items
pub of_array : {R : Type 0} (F : Data → R) (G : List Data → R) (json : Value) (v : Vec Value Global) (xs : List Value) → ((ds : Items) → F (array ds) ≡ G (listed ds)) → json ≡ Array v → xs ≡ v.items → G (map view xs) ≡ F (view json)
of_array F G json v xs by_items is same =
    ap (λ ys. G (map view ys)) same ∙ ap G (sym (listed-view v.items)) ∙ sym (by_items (items_view v.items)) ∙ ap F (sym (ap view is ∙ view-Array v))

module _ (texts : Bool) where
  -- ---- values

  each_value : (t : Option LeafType) (ds : Items) → values_of_as texts t ds ≡ each_of (value_of_as texts t) (listed ds)
  each_value t no_items = refl
  each_value t (item d ds) = ap (then_rest (value_of_as texts t d)) (each_value t ds)

-- ---- leaves

pub found_here : (leaves : List CodeLeaf) (i : ℕ) (l : CodeLeaf) (names : List (List ℕ)) → i < length leaves → l ≡ get_or leaves i l → (leaf_view l).path ≡ names
    → leaf_named (map leaf_view (drop i leaves)) names ≡ Some (leaf_view l).leaf_type
found_here leaves i l names lt is same =
    let yes : pointwise bytes_eq (leaf_view l).path names ≡ true = (pointwise_decides bytes_decides (leaf_view l).path names).1 same in
    ap (λ ls. leaf_named ls names) (reads leaf_view leaves i l lt is) ∙ rw yes refl

pub passed_over : (leaves : List CodeLeaf) (i : ℕ) (l : CodeLeaf) (names : List (List ℕ)) → i < length leaves → l ≡ get_or leaves i l → (leaf_view l).path ≢ names
    → leaf_named (map leaf_view (drop i leaves)) names ≡ leaf_named (map leaf_view (drop (i + 1) leaves)) names
passed_over leaves i l names lt is other =
    let no = not_true (pointwise bytes_eq (leaf_view l).path names) (λ e. other ((pointwise_decides bytes_decides (leaf_view l).path names).0 e)) in
    ap (λ ls. leaf_named ls names) (reads leaf_view leaves i l lt is) ∙ rw no refl

module _ (texts : Bool) where
  pub list_seen : (t : Option LeafType) (json : Value) (v : Vec Value Global) (xs : List Value) → json ≡ Array v → xs ≡ v.items → list_value (each_of (value_of_as texts t) (map view xs)) ≡ value_of_as texts t (view json)
  list_seen t json v xs is same = of_array (value_of_as texts t) (λ ds. list_value (each_of (value_of_as texts t) ds)) json v xs (λ ds. ap list_value (each_value texts t ds)) is same

  -- the fault of a list is that of its items
  pub list_fault : (t : Option LeafType) (d : Data) (made : Result (List ValueTree) Refusal) → list_value made ≡ value_of_as texts t d → (e : Refusal) → HasCause (λ x. made ≡ Err x) e → HasCause (λ x. value_of_as texts t d ≡ Err x) e
  list_fault t d made is Memory h = tt
  list_fault t d made is e h = sym is ∙ ap list_value h
