-- The values of a row, by their places.
use Rattle.std.proofs.Common.{◌≡◌, ℕ, zero, suc, ◌<◌, ◌≤◌, List, [], ◌∷◌, length, get_or, map, refl, arith}
use Rattle.schema.specs.declared.value.Value.{Value}
use Rattle.schema.specs.Values.{null, view, trees_of, member_at}

pub member_is : (values : List Value) (i : ℕ) (d : Value) → i < length values → member_at i (trees_of (map view values)) ≡ view (get_or values i d)
member_is [] i d h = absurd (omega (arith, h))
member_is (v ∷ values) zero d h = refl
member_is (v ∷ values) (suc i) d h = member_is values i d (omega (arith, h))

pub no_member : (values : List Value) (i : ℕ) → length values ≤ i → member_at i (trees_of (map view values)) ≡ null
no_member [] zero h = refl
no_member [] (suc i) h = refl
no_member (v ∷ values) zero h = absurd (omega (arith, h))
no_member (v ∷ values) (suc i) h = no_member values i (omega (arith, h))
