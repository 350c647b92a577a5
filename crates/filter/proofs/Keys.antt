-- Key columns and statistics by place.
use Rattle.std.proofs.Common.{◌≡◌, ℕ, ◌+◌, ◌<◌, ◌==◌, false, List, [], ◌∷◌, length, get_or, drop, map, refl, ap, sym, ◌∙◌, Some, None, eqb-true, zero, suc, ◌≤◌, arith}
use Rattle.std.specs.List.{slice_get}
use Rattle.std.specs.Prelude.{count_by, nat_lt, cond}
use Rattle.std.proofs.lemmas.List.Sums.{sum_by-cons}
use Rattle.std.proofs.lemmas.List.Recursion.{is_sum_by}
use Rattle.std.proofs.lemmas.List.{drop_more}
use Rattle.std.proofs.lemmas.Bool.{false_from_ne_true as not_true}
use Rattle.schema.specs.declared.key.KeyColumn.{KeyColumn}
use Rattle.schema.specs.declared.value.Value.{Value}
use Rattle.schema.specs.Values.{view}
use Rattle.schema.specs.Keys.{places_of, key_columns_view}
use Rattle.filter.specs.RuledOut.{key_at}

-- a key column elsewhere is passed over
pub key_at-drop : (keys : List KeyColumn) (key : List Value) (i place : ℕ) (x : KeyColumn) (e : Value) → i < length keys → i < length key → x ≡ get_or keys i x → (x.at ≡ place → ⊥)
    → key_at (places_of (key_columns_view (drop i keys))) (map view (drop i key)) place ≡ key_at (places_of (key_columns_view (drop (i + 1) keys))) (map view (drop (i + 1) key)) place
key_at-drop keys key i place x e h k is elsewhere =
    let other : ((get_or keys i x).at == place) ≡ false = ap (λ (y : KeyColumn). y.at == place) (sym is) ∙ not_true (x.at == place) (λ t. elsewhere (eqb-true x.at place t)) in
    rw (drop_more keys i x h, drop_more key i e k, other) refl

pub slice_get_map_some : {X Y : Type 0} (f : X → Y) (xs : List X) (i : ℕ) (x : X) → i < length xs → x ≡ get_or xs i x → slice_get (map f xs) i ≡ Some (f x)
slice_get_map_some f [] i x h is = absurd (omega arith)
slice_get_map_some f (y ∷ xs) zero x h is = ap (λ z. Some (f z)) (sym is)
slice_get_map_some f (y ∷ xs) (suc i) x h is = slice_get_map_some f xs i x (omega arith) is

pub slice_get_map_none : {X Y : Type 0} (f : X → Y) (xs : List X) (i : ℕ) → length xs ≤ i → slice_get (map f xs) i ≡ None
slice_get_map_none f [] i h = refl
slice_get_map_none f (y ∷ xs) zero h = absurd (omega arith)
slice_get_map_none f (y ∷ xs) (suc i) h = slice_get_map_none f xs i (omega arith)

-- the key columns before a place, by their places
pub count_before : (keys : List KeyColumn) (place : ℕ) → count_by (λ a. nat_lt a place) (places_of (key_columns_view keys)) ≡ count_by (λ k. nat_lt k.at place) keys
count_before keys place = is_sum_by (λ ks. count_by (λ a. nat_lt a place) (places_of (key_columns_view ks))) (λ (k : KeyColumn). cond (nat_lt k.at place) 1 0) refl
    (λ k ks. sum_by-cons (λ (a : ℕ). cond (nat_lt a place) 1 0) k.at (places_of (key_columns_view ks))) keys
