-- Rows of the first fields, made longer by Null.
use Rattle.std.proofs.Common.{◌≡◌, ◌≤◌, ◌<◌, List, [], ◌∷◌, ◌++◌, length, refl, ap, arith}
use Rattle.schema.specs.Values.{ValueTree, null, value as item, trees_of}
use Rattle.schema.specs.Shape.{Fields, no_fields, field, count}
use Rattle.schema.specs.Fronts.{padded}

pub padded_whole : (fs : Fields) (vs : List ValueTree) → count fs ≤ length vs → padded fs (trees_of vs) ≡ trees_of vs
padded_whole no_fields vs h = refl
padded_whole (field f fs) [] h = absurd (omega (arith, h))
padded_whole (field f fs) (v ∷ vs) h = ap (item v) (padded_whole fs vs (omega (arith, h)))

pub padded_more : (fs : Fields) (vs : List ValueTree) → length vs < count fs → padded fs (trees_of (vs ++ null ∷ [])) ≡ padded fs (trees_of vs)
padded_more no_fields vs h = absurd (omega (arith, h))
padded_more (field f fs) [] h = refl
padded_more (field f fs) (v ∷ vs) h = ap (item v) (padded_more fs vs (omega (arith, h)))
