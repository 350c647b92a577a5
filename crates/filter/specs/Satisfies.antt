-- Which rows satisfy a filter: fastparquet, "filters".
use Rattle.std.specs.Prelude.{◌≡◌, ◌≢◌, ◌⊎◌, List, [], ◌∷◌, Option}
use Rattle.std.specs.List.{AllByRecursion}
use Rattle.schema.specs.declared.order.Order.{Order}
use Rattle.schema.specs.Values.{ValueTree, null, list, ValueTrees, no_values, value as item}
use Rattle.schema.specs.Orders.{IsAtMost, IsBelow}
use Rattle.filter.specs.declared.term.Op.{Op}
use Rattle.filter.specs.declared.term.Op.TheVariants.{Equal, NotEqual, Less, LessOrEqual, Greater, GreaterOrEqual, In, NotIn}
use Rattle.filter.specs.Test.{Test, value_of}

-- P holds of one of the items
abbrev pub AnyOf : {X : Type 0} → (X → Type 0) → List X → Type 0
AnyOf P [] = ⊥
AnyOf P (x ∷ xs) = P x ⊎ AnyOf P xs

-- the value is one of these
abbrev pub IsOneOf : ValueTree → ValueTrees → Type 0
IsOneOf v no_values = ⊥
IsOneOf v (item w ws) = (v ≡ w) ⊎ IsOneOf v ws

-- the value is in a list
abbrev pub IsIn : ValueTree → ValueTree → Type 0
IsIn v (list ws) = IsOneOf v ws
IsIn v _ = ⊥

-- an operator is true of a value that is not null, and an operand: `==`, `!=`, `in` and `not in` by equality, the others by
-- the leaf's order
abbrev pub Compares : Option Order → Op → ValueTree → ValueTree → Type 0
Compares order Equal v w = v ≡ w
Compares order NotEqual v w = v ≢ w
Compares order Less v w = IsBelow order v w
Compares order LessOrEqual v w = IsAtMost order v w
Compares order Greater v w = IsBelow order w v
Compares order GreaterOrEqual v w = IsAtMost order w v
Compares order In v w = IsIn v w
Compares order NotIn v w = IsIn v w → ⊥

-- a term is true of a value: of a null it is false
abbrev pub Holds : Test → ValueTree → Type 0
Holds t v = (v ≢ null) × Compares t.order t.op v t.operand

-- a row satisfies a filter: the filter is empty, or one of its ANDs has all its terms true
abbrev pub Satisfies : List (List Test) → ValueTrees → Type 0
Satisfies ands row = (ands ≡ []) ⊎ AnyOf (AllByRecursion (λ t. Holds t (value_of t row))) ands
