-- How the rows that satisfy a filter and the groups that it rules out are related; filters over cut schemas.
use Rattle.std.specs.Prelude.{◌≡◌, ◌↔◌, ℕ, List, length, None, IfSome, IsTrue, Ok}
use Rattle.std.specs.List.{AllByRecursion}
use Rattle.schema.specs.Values.{ValueTree, ValueTrees}
use Rattle.schema.specs.Stripe.{column, leaves_of}
use Rattle.schema.specs.Shape.{Fields}
use Rattle.schema.specs.Law.{IsSchema}
use Rattle.schema.specs.Cutting.{is_among, cut_to, cut_values}
use Rattle.statistics.specs.Bounds.{Bounds, Known}
use Rattle.statistics.specs.Absent.{known_over}
use Rattle.filter.specs.Test.{Test, is_single, steps_of, value_of}
use Rattle.filter.specs.Satisfies.{Satisfies}
use Rattle.filter.specs.Terms.{Term, tests_of}
use Rattle.filter.specs.RuledOut.{key_at, statistics_at, RuledOut}
use Rattle.filter.specs.Deciding.{satisfies}

-- What is known of a group is true of its rows at a term's column, which is below no repeated field: its key where the column
-- is one of the keys, and else its statistics; of a leaf that the file lacks each row has a null.
pub record Describes (places : List ℕ) (key : List ValueTree) (known : Known) (rows : List ValueTrees) (t : Test) : Type 0 where
  pub single : AllByRecursion (λ s. IsTrue (is_single s)) (steps_of t)
  pub counted : known.rows ≡ length rows
  pub keyed : IfSome (key_at places key t.first.place) (λ v. AllByRecursion (λ row. value_of t row ≡ v) rows)
  pub bounded : key_at places key t.first.place ≡ None → Bounds t.order (statistics_at places known t) (column rows (steps_of t))

-- no row of a group that is ruled out satisfies the filter
abbrev pub RuledOutHoldsNoRow : Type 0
RuledOutHoldsNoRow = (ands : List (List Test)) (places : List ℕ) (key : List ValueTree) (known : Known) (rows : List ValueTrees)
    → AllByRecursion (AllByRecursion (Describes places key known rows)) ands
    → RuledOut ands places key known
    → AllByRecursion (λ row. Satisfies ands row → ⊥) rows

-- completing what is known of a group to more leaves changes nothing
abbrev pub CompletedIsTheSame : Type 0
CompletedIsTheSame = (ands : List (List Test)) (places : List ℕ) (key : List ValueTree) (known : Known) (leaves : ℕ)
    → RuledOut ands places key (known_over leaves known) ↔ RuledOut ands places key known

-- whether a row satisfies a filter is decided by the tests
abbrev pub TestsDecide : Type 0
TestsDecide = (ands : List (List Test)) (row : ValueTrees) → IsTrue (satisfies ands row) ↔ Satisfies ands row

-- made over a cut schema that keeps its columns, a filter says of the cut row what it says over the whole schema of the row
abbrev pub CutFiltersAgree : Type 0
CutFiltersAgree = (places : List ℕ) (fs : Fields) (terms : List (List Term)) (whole part : List (List Test)) → IsSchema fs
    → tests_of (leaves_of fs) terms ≡ Ok whole → tests_of (leaves_of (cut_to places fs)) terms ≡ Ok part
    → (row : ValueTrees) → Satisfies part (cut_values (is_among places) 0 fs row) ↔ Satisfies whole row
