-- The leaves of columns at places.
use Rattle.std.specs.Prelude.{ℕ, suc, Bool, false, List, [], ◌∷◌, if◌then◌else◌}
use Rattle.schema.specs.Stripe.{Step, Leaf}
use Rattle.schema.specs.Cutting.{is_among}

-- a path begins at a column at one of these places
abbrev pub begins_at : List ℕ → List Step → Bool
begins_at places [] = false
begins_at places (s ∷ steps) = is_among places s.place

-- a leaf is of a column at one of these places
abbrev pub is_at : List ℕ → Leaf → Bool
is_at places l = begins_at places l.steps

-- the places of the leaves of the columns at these places; the first leaf has this place
abbrev pub leaves_among : List ℕ → ℕ → List Leaf → List ℕ
leaves_among places at [] = []
leaves_among places at (l ∷ ls) = if is_at places l then at ∷ leaves_among places (suc at) ls else leaves_among places (suc at) ls
