-- What is known of columns, one after another.
use Rattle.std.proofs.Common.{◌≡◌, ℕ, zero, suc, ◌≤◌, Bool, List, [], ◌∷◌, length, map, drop, min, refl, arith}
use Rattle.schema.specs.declared.field.Leaf.{Leaf as CodeLeaf}
use Rattle.schema.specs.Stripe.{Leaf}
use Rattle.schema.specs.Views.{leaf_view}
use Rattle.statistics.specs.declared.stats.Stats.{Stats}
use Rattle.statistics.specs.Bounds.{statistics_of}
use Rattle.jsonrows.specs.GroupColumns.{known_json}

none_known : (texts : Bool) (leaves : List Leaf) → known_json texts leaves [] ≡ []
none_known texts [] = refl
none_known texts (leaf ∷ leaves) = refl

-- past the last leaf, or past the last statistics, nothing is known
pub nothing_past : (texts : Bool) (leaves : List CodeLeaf) (known : List Stats) (n : ℕ) → min (length known) (length leaves) ≤ n → known_json texts (map leaf_view (drop n leaves)) (map statistics_of (drop n known)) ≡ []
nothing_past texts [] known zero h = refl
nothing_past texts (leaf ∷ leaves) [] zero h = refl
nothing_past texts (leaf ∷ leaves) (s ∷ known) zero h = absurd (omega (arith, h))
nothing_past texts [] known (suc n) h = refl
nothing_past texts (leaf ∷ leaves) [] (suc n) h = none_known texts (map leaf_view (drop n leaves))
nothing_past texts (leaf ∷ leaves) (s ∷ known) (suc n) h = nothing_past texts leaves known n (omega (arith, h))
