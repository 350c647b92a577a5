-- Which rows satisfy a filter, by computation; the law `TestsDecide` says that this is `Satisfies`.
use Rattle.std.specs.Prelude.{Bool, true, false, not, ◌&&◌, List, [], Option}
use Rattle.std.specs.List.{list_any, list_all}
use Rattle.std.specs.Ordering.{is_some_and, is_lt, is_le, is_gt, is_ge}
use Rattle.schema.specs.declared.order.Order.{Order}
use Rattle.schema.specs.Values.{ValueTree, null, ValueTrees}
use Rattle.schema.specs.Orders.{compared}
use Rattle.filter.specs.declared.term.Op.{Op}
use Rattle.filter.specs.declared.term.Op.TheVariants.{Equal, NotEqual, Less, LessOrEqual, Greater, GreaterOrEqual, In, NotIn}
use Rattle.filter.specs.Test.{Test, value_of}
use Rattle.filter.specs.Same.{same, is_listed}

-- the value is null
abbrev pub is_null : ValueTree → Bool
is_null null = true
is_null _ = false

-- an operator is true of a value that is not null, and an operand
abbrev pub passes : Option Order → Op → ValueTree → ValueTree → Bool
passes order Equal v w = same v w
passes order NotEqual v w = not (same v w)
passes order Less v w = is_some_and is_lt (compared order v w)
passes order LessOrEqual v w = is_some_and is_le (compared order v w)
passes order Greater v w = is_some_and is_gt (compared order v w)
passes order GreaterOrEqual v w = is_some_and is_ge (compared order v w)
passes order In v w = is_listed v w
passes order NotIn v w = not (is_listed v w)

-- a term is true of a value
abbrev pub holds : Test → ValueTree → Bool
holds t v = not (is_null v) && passes t.order t.op v t.operand

-- a row satisfies a filter
abbrev pub satisfies : List (List Test) → ValueTrees → Bool
satisfies [] row = true
satisfies ands row = list_any (λ terms. list_all (λ t. holds t (value_of t row)) terms) ands
