-- A key that ends within another.
use Rattle.std.proofs.Common.{◌≡◌, ℕ, zero, suc, ◌<◌, ◌≤◌, List, [], ◌∷◌, length, drop, map, refl, arith}
use Rattle.std.specs.declared.cmp.Ordering.TheVariants.{Less}
use Rattle.std.specs.Cmp.Lexicographic.{slice_cmp}
use Rattle.schema.specs.declared.value.Value.{Value}
use Rattle.schema.specs.Values.{view}
use Rattle.partition.specs.Order.{value_cmp}

none_before : (ys : List Value) (i : ℕ) → i < length ys → slice_cmp value_cmp [] (map view (drop i ys)) ≡ Less
none_before [] i k = absurd (omega (arith, k))
none_before (y ∷ ys) zero k = refl
none_before (y ∷ ys) (suc i) k = none_before ys i (omega (arith, k))

pub ends_within : (xs ys : List Value) (i : ℕ) → length xs ≤ i → i < length ys → slice_cmp value_cmp (map view (drop i xs)) (map view (drop i ys)) ≡ Less
ends_within [] [] i h k = absurd (omega (arith, k))
ends_within [] (y ∷ ys) zero h k = refl
ends_within [] (y ∷ ys) (suc i) h k = none_before ys i (omega (arith, k))
ends_within (x ∷ xs) ys zero h k = absurd (omega (arith, h))
ends_within (x ∷ xs) [] (suc i) h k = absurd (omega (arith, k))
ends_within (x ∷ xs) (y ∷ ys) (suc i) h k = ends_within xs ys i (omega (arith, h)) (omega (arith, k))
