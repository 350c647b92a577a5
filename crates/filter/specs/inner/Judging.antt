-- Verdicts that are made anew.
use Rattle.std.specs.Prelude.{ℕ, Bool, List, ◌∷◌, if◌then◌else◌}
use Rattle.schema.specs.Values.{ValueTree}
use Rattle.filter.specs.Deciding.{holds}
use Rattle.filter.specs.Test.{Test, is_at}

-- each element made anew by the one at the same index of another list; the rest stays
abbrev pub renewed : {X Y : Type 0} → (X → Y → Y) → List X → List Y → List Y
renewed f (x ∷ xs) (y ∷ ys) = f x y ∷ renewed f xs ys
renewed f _ ys = ys

-- the verdict on a term, after a look at a leaf
abbrev pub verdict : ℕ → ValueTree → Test → Bool → Bool
verdict n v t b = if is_at n t then holds t v else b

-- the verdicts on the terms of one AND, after a look at the leaf `n` with the value `v`
abbrev pub judged_terms : ℕ → ValueTree → List Test → List Bool → List Bool
judged_terms n v terms verdicts = renewed (verdict n v) terms verdicts

-- the verdicts on the terms of all ANDs, after a look at the leaf `n` with the value `v`
abbrev pub judged : ℕ → ValueTree → List (List Test) → List (List Bool) → List (List Bool)
judged n v ands verdicts = renewed (judged_terms n v) ands verdicts
