-- A filter as contracts see it: an OR of ANDs of terms, each at its leaf (fastparquet, "filters").
use Rattle.std.specs.Prelude.{◌≡◌, ◌==◌, ℕ, Bool, true, false, not, List, [], ◌∷◌, map, Option, Vec}
use Rattle.std.specs.List.{list_any, AllByRecursion}
use Rattle.std.specs.declared.alloc.Global.{Global}
use Rattle.schema.specs.declared.order.Order.{Order}
use Rattle.schema.specs.declared.value.Repetition.{Repetition}
use Rattle.schema.specs.declared.value.Repetition.TheVariants.{Required, Optional, Repeated}
use Rattle.schema.specs.declared.field.Step.{Step as CodeStep}
use Rattle.schema.specs.Values.{ValueTree, group, ValueTrees, member, member_at, view}
use Rattle.schema.specs.Stripe.{Step}
use Rattle.schema.specs.Views.{step_view}
use Rattle.filter.specs.declared.term.Op.{Op}
use Rattle.filter.specs.declared.test.Test.{Test as CodeTest}
use Rattle.filter.specs.declared.filter.Filter.{Filter}

-- a term at its leaf: the leaf's index among the leaves, the path to it as its first step and the rest, and its order
pub record Test : Type 0 where
  pub leaf : ℕ
  pub first : Step
  pub rest : List Step
  pub order : Option Order
  pub op : Op
  pub operand : ValueTree

-- the path that a list of `Step` stands for
abbrev pub way_view : List CodeStep → List Step
way_view steps = map step_view steps

-- the term at its leaf that a `Test` of the program stands for
abbrev pub test_view : CodeTest → Test
test_view t = record { leaf = t.leaf; first = step_view t.first; rest = way_view t.rest.items; order = t.order; op = t.op; operand = view t.operand.value }

-- the ANDs of terms at their leaves that lists of `Test` stand for
abbrev pub ands_view : List (Vec CodeTest Global) → List (List Test)
ands_view ands = map (λ terms. map test_view terms.items) ands

-- the ANDs of terms at their leaves that a `Filter` of the program stands for
abbrev pub tests_in : Filter → List (List Test)
tests_in f = ands_view f.ands.items

-- the repetition is REPEATED
abbrev pub is_repeated : Repetition → Bool
is_repeated Repeated = true
is_repeated Required = false
is_repeated Optional = false

-- the field of a step is not REPEATED
abbrev pub is_single : Step → Bool
is_single s = not (is_repeated s.repetition)

-- the value at the end of a path: null where one on the path is
abbrev pub value_at : List Step → ValueTree → ValueTree
value_at [] v = v
value_at (s ∷ p) v = value_at p (member s.place v)

-- the path to a term's leaf
abbrev pub steps_of : Test → List Step
steps_of t = t.first ∷ t.rest

-- the value that a row has at a term's leaf
abbrev pub value_of : Test → ValueTrees → ValueTree
value_of t row = value_at (steps_of t) (group row)

-- a term is at the leaf with this index
abbrev pub is_at : ℕ → Test → Bool
is_at n t = t.leaf == n

-- one of the terms of a filter is at the leaf with this index
abbrev pub looks_at : List (List Test) → ℕ → Bool
looks_at ands n = list_any (λ terms. list_any (is_at n) terms) ands

-- at the leaf of each term there is the value that the row has there
abbrev pub AreLeafValues : List (List Test) → ValueTrees → ValueTrees → Type 0
AreLeafValues ands leaves row = AllByRecursion (AllByRecursion (λ t. member_at t.leaf leaves ≡ value_of t row)) ands
