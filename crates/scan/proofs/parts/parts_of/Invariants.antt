use Rattle.std.proofs.Common.{◌≡◌, ◌++◌, ℕ, List, length}
use Rattle.schema.specs.Keys.{key_columns_view, places_of}
use Rattle.schema.specs.Shape.{count}
use Rattle.schema.specs.Views.{key_view}
use Rattle.filter.specs.Test.{tests_in}
use Rattle.scan.specs.inner.Parts.{wanted_from, ArePartsOf}
use Rattle.scan.proofs.parts.parts_of.Given as goal

-- the parts of the first places, and the others
abbrev pub invariant-parts : goal.invariant-parts
invariant-parts l = (done : List ℕ)
    × ArePartsOf (record { tests = tests_in l.filter; keys = places_of (key_columns_view l.keys); fields = l.schema; key = key_view l.group.key; width = l.group.width }) done l.parts.items
    × (done ++ l.rest ≡ wanted_from l.places 0 (count l.schema))

abbrev pub decreases-parts : goal.decreases-parts
decreases-parts l = length l.rest
