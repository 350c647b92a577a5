-- The tests of groups, for the clauses of private functions.
use Rattle.std.specs.Prelude.{ℕ, ◌==◌, Bool, false, not, ◌&&◌, ◌||◌, List, [], Option, Some, None}
use Rattle.std.specs.List.{list_any, list_all}
use Rattle.std.specs.declared.cmp.Ordering.{Ordering}
use Rattle.std.specs.Ordering.{is_some_and, is_lt, is_le, is_gt, is_ge}
use Rattle.schema.specs.declared.order.Order.{Order}
use Rattle.schema.specs.Values.{ValueTree, list, each}
use Rattle.schema.specs.Orders.{compared}
use Rattle.statistics.specs.Bounds.{Statistics, Known}
use Rattle.filter.specs.declared.term.Op.{Op}
use Rattle.filter.specs.declared.term.Op.TheVariants.{Equal, NotEqual, Less, LessOrEqual, Greater, GreaterOrEqual, In, NotIn}
use Rattle.filter.specs.Test.{Test}
use Rattle.filter.specs.RuledOut.{key_at, statistics_at}
use Rattle.filter.specs.Same.{same, is_listed}
use Rattle.filter.specs.Deciding.{holds}

-- a bound is there and compares so with a value; what is said of an absent bound is false
abbrev pub bound_is : (Ordering → Bool) → Option Order → Option ValueTree → ValueTree → Bool
bound_is p order (Some m) w = is_some_and p (compared order m w)
bound_is p order None w = false

-- a value is below the minimum or above the maximum
abbrev pub is_outside : Option Order → Statistics → ValueTree → Bool
is_outside order s w = bound_is is_gt order s.min w || bound_is is_lt order s.max w

-- each value of a list is outside
abbrev pub are_outside : Option Order → Statistics → ValueTree → Bool
are_outside order s (list ws) = each (is_outside order s) ws
are_outside order s _ = false

-- both bounds are there, are equal and pass the test
abbrev pub is_only : (ValueTree → Bool) → Option ValueTree → Option ValueTree → Bool
is_only p (Some m) (Some n) = same m n && p m
is_only p _ _ = false

-- the bounds leave no value of which the term is true
abbrev pub excludes : Option Order → Op → Statistics → ValueTree → Bool
excludes order Equal s w = is_outside order s w
excludes order NotEqual s w = is_only (λ m. same m w) s.min s.max
excludes order Less s w = bound_is is_ge order s.min w
excludes order LessOrEqual s w = bound_is is_gt order s.min w
excludes order Greater s w = bound_is is_le order s.max w
excludes order GreaterOrEqual s w = bound_is is_lt order s.max w
excludes order In s w = are_outside order s w
excludes order NotIn s w = is_only (λ m. is_listed m w) s.min s.max

-- a term is out: by the key, or by the null count or the bounds
abbrev pub is_out_by : Option ValueTree → Statistics → ℕ → Test → Bool
is_out_by (Some v) s rows t = not (holds t v)
is_out_by None s rows t = s.nulls == rows || excludes t.order t.op s t.operand

-- a term is out for a group with this key and these statistics, by computation
unfoldable pub is_out : List ℕ → List ValueTree → Known → Test → Bool
is_out places key known t = is_out_by (key_at places key t.first.place) (statistics_at places known t) known.rows t

-- the filter is not empty, and each of its ANDs has a term that is out
abbrev pub ruled_out : List (List Test) → List ℕ → List ValueTree → Known → Bool
ruled_out [] places key known = false
ruled_out ands places key known = list_all (λ terms. list_any (is_out places key known) terms) ands
