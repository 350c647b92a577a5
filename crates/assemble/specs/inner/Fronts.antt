-- Stripes at the fronts of columns: parquet.apache.org, "Nested Encoding".
use Rattle.std.specs.Prelude.{◌≡◌, ℕ, zero, suc, ◌+◌, ◌≤◌, List, [], ◌∷◌, ◌++◌, map, None, true}
use Rattle.schema.specs.Values.{ValueTree, ValueTrees, no_values, value as item, each}
use Rattle.schema.specs.Shape.{Field, Fields, no_fields, field, repetition_of}
use Rattle.schema.specs.Fits.{fits, fits_each, fits_inside}
use Rattle.schema.specs.Stripe.{Entry, entry, Leaf, leaves, stripe, stripe_as, later_items, list_items, definitions, greatest_definition}
use Rattle.assemble.specs.Columns.{Columns, Want}

-- what comes after a value with this own level begins with no higher repetition level
abbrev pub Ends : ℕ → List Entry → Type 0
Ends k [] = Unit {0}
Ends k (e ∷ es) = e.repetition ≤ k

-- what comes after each of the stripes begins with no higher repetition level than this own level
abbrev pub AreEnds : ℕ → Columns → Columns → Type 0
AreEnds k (s ∷ ss) (r ∷ rs) = Ends k r × AreEnds k ss rs
AreEnds k _ _ = Unit {0}

-- what the value of a field gives to each leaf at and below it
abbrev pub stripes : Field → ℕ → ℕ → ℕ → ValueTree → Columns
stripes f r d k v = map (λ (l : Leaf). stripe_as (repetition_of f) (stripe l.steps) v r d k) (leaves f)

-- what the value of a field gives to each leaf at and below it, its repetition aside
abbrev pub stripes_inside : Field → ℕ → ℕ → ℕ → ValueTree → Columns
stripes_inside f r d k v = map (λ (l : Leaf). stripe l.steps v r d k) (leaves f)

-- what the items of a list after its first give to each leaf at and below its field
abbrev pub stripes_later : Field → ℕ → ℕ → ValueTrees → Columns
stripes_later f d k vs = map (λ (l : Leaf). later_items (stripe l.steps) vs d k) (leaves f)

-- what a list gives that is not empty
abbrev pub stripes_items : Field → ℕ → ℕ → ℕ → ValueTrees → Columns
stripes_items f r d k vs = map (λ (l : Leaf). list_items (stripe l.steps) vs r d k) (leaves f)

-- what the values of some fields give
abbrev pub stripes_each : Fields → ℕ → ℕ → ℕ → ValueTrees → Columns
stripes_each (field f fs) r d k (item v vs) = stripes f r d k v ++ stripes_each fs r d k vs
stripes_each _ r d k _ = []

-- an entry without value for each of some leaves
abbrev pub nones : ℕ → ℕ → ℕ → Columns
nones r d zero = []
nones r d (suc n) = entry r d None ∷ nones r d n

-- what the entries of each leaf at and below a field should have
abbrev pub wants : Field → ℕ → List Want
wants f d = map (λ (l : Leaf). record { full = d + (definitions (repetition_of f) + greatest_definition l.steps); leaf_type = l.leaf_type }) (leaves f)

-- what the entries of each leaf at and below a field should have, its repetition aside
abbrev pub wants_inside : Field → ℕ → List Want
wants_inside f d = map (λ (l : Leaf). record { full = d + greatest_definition l.steps; leaf_type = l.leaf_type }) (leaves f)

-- what the entries of each leaf at and below some fields should have
abbrev pub wants_each : Fields → ℕ → List Want
wants_each no_fields d = []
wants_each (field f fs) d = wants f d ++ wants_each fs d

-- the value of a field fits
abbrev pub Fit : Field → ValueTree → Type 0
Fit f v = fits f v ≡ true

-- the value of a field fits, its repetition aside
abbrev pub FitInside : Field → ValueTree → Type 0
FitInside f v = fits_inside f v ≡ true

-- each of the items of a field's list fits, and there may be none
abbrev pub FitLater : Field → ValueTrees → Type 0
FitLater f vs = each (fits_inside f) vs ≡ true

-- the values of some fields fit, one for each field
abbrev pub FitEach : Fields → ValueTrees → Type 0
FitEach fs vs = fits_each fs vs ≡ true

-- each of the items of a field's list fits, and there is one at least
abbrev pub FitItems : Field → ValueTrees → Type 0
FitItems f no_values = ⊥
FitItems f (item v vs) = each (fits_inside f) (item v vs) ≡ true
