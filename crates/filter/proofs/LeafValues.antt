-- Tests by the values of leaves are tests of the row that has these values.
use Rattle.std.proofs.Common.{◌≡◌, Bool, ◌&&◌, ◌||◌, List, [], ◌∷◌, refl, ap, ◌∙◌}
use Rattle.std.specs.List.{list_any, list_all, AllByRecursion}
use Rattle.schema.specs.Values.{ValueTree, ValueTrees, member_at}
use Rattle.filter.specs.Test.{Test, value_of, AreLeafValues}
use Rattle.filter.specs.Deciding.{holds}

all_same : (terms : List Test) (leaves row : ValueTrees) → AllByRecursion (λ t. member_at t.leaf leaves ≡ value_of t row) terms
    → list_all (λ t. holds t (member_at t.leaf leaves)) terms ≡ list_all (λ t. holds t (value_of t row)) terms
all_same [] leaves row h = refl
all_same (t ∷ terms) leaves row h =
    ap (λ (v : ValueTree). holds t v && list_all (λ u. holds u (member_at u.leaf leaves)) terms) h.0
    ∙ ap (λ (b : Bool). holds t (value_of t row) && b) (all_same terms leaves row h.1)

pub same_tests : (ands : List (List Test)) (leaves row : ValueTrees) → AreLeafValues ands leaves row
    → list_any (λ terms. list_all (λ t. holds t (member_at t.leaf leaves)) terms) ands ≡ list_any (λ terms. list_all (λ t. holds t (value_of t row)) terms) ands
same_tests [] leaves row h = refl
same_tests (terms ∷ ands) leaves row h =
    ap (λ (b : Bool). b || list_any (λ us. list_all (λ u. holds u (member_at u.leaf leaves)) us) ands) (all_same terms leaves row h.0)
    ∙ ap (λ (b : Bool). list_all (λ t. holds t (value_of t row)) terms || b) (same_tests ands leaves row h.1)
