-- Which groups a filter rules out: by their key, and by their statistics (parquet.thrift, Statistics).
use Rattle.std.specs.Prelude.{◌≡◌, ◌≢◌, ◌⊎◌, ℕ, ◌-◌, ◌==◌, List, [], ◌∷◌, nat_lt, count_by, Option, Some, None, if◌then◌else◌}
use Rattle.std.specs.List.{slice_get, AllByRecursion}
use Rattle.schema.specs.declared.order.Order.{Order}
use Rattle.schema.specs.Values.{ValueTree, list, ValueTrees, no_values, value as item}
use Rattle.schema.specs.Orders.{IsAtMost, IsBelow}
use Rattle.statistics.specs.Bounds.{Statistics, Known}
use Rattle.statistics.specs.Absent.{absent_statistics}
use Rattle.filter.specs.declared.term.Op.{Op}
use Rattle.filter.specs.declared.term.Op.TheVariants.{Equal, NotEqual, Less, LessOrEqual, Greater, GreaterOrEqual, In, NotIn}
use Rattle.filter.specs.Test.{Test}
use Rattle.filter.specs.Satisfies.{AnyOf, IsIn, Holds}

-- a bound is there, and P holds of it: what is said of an absent bound is false
abbrev pub HasBound : Option ValueTree → (ValueTree → Type 0) → Type 0
HasBound None P = ⊥
HasBound (Some m) P = P m

-- a value is below the minimum or above the maximum
abbrev pub IsOutside : Option Order → Statistics → ValueTree → Type 0
IsOutside order s w = HasBound s.min (λ m. IsBelow order w m) ⊎ HasBound s.max (λ m. IsBelow order m w)

-- each of the values is below the minimum or above the maximum
abbrev pub EachOutside : Option Order → Statistics → ValueTrees → Type 0
EachOutside order s no_values = Unit {0}
EachOutside order s (item w ws) = IsOutside order s w × EachOutside order s ws

-- the value is a list, and each value in it is below the minimum or above the maximum
abbrev pub AreOutside : Option Order → Statistics → ValueTree → Type 0
AreOutside order s (list ws) = EachOutside order s ws
AreOutside order s _ = ⊥

-- The bounds leave no value of which the term is true. For `==` its value is outside, for `in` each listed value is; for `!=`
-- minimum and maximum are its value, for `not in` they are one value that is listed; for `<` the minimum is not below its
-- value, for `<=` it is above; `>` and `>=` are the same with the maximum.
abbrev pub Excludes : Option Order → Op → Statistics → ValueTree → Type 0
Excludes order Equal s w = IsOutside order s w
Excludes order NotEqual s w = HasBound s.min (λ m. m ≡ w) × HasBound s.max (λ m. m ≡ w)
Excludes order Less s w = HasBound s.min (λ m. IsAtMost order w m)
Excludes order LessOrEqual s w = HasBound s.min (λ m. IsBelow order w m)
Excludes order Greater s w = HasBound s.max (λ m. IsAtMost order m w)
Excludes order GreaterOrEqual s w = HasBound s.max (λ m. IsBelow order m w)
Excludes order In s w = AreOutside order s w
Excludes order NotIn s w = HasBound s.min (λ m. HasBound s.max (λ n. (m ≡ n) × IsIn m w))

-- the value of the key column at a place of the row
abbrev pub key_at : List ℕ → List ValueTree → ℕ → Option ValueTree
key_at (a ∷ places) (v ∷ key) place = if a == place then Some v else key_at places key place
key_at _ _ place = None

-- the statistics of a leaf, or those of one that the file lacks
abbrev pub given_or_absent : ℕ → Option Statistics → Statistics
given_or_absent rows (Some s) = s
given_or_absent rows None = absent_statistics rows

-- the statistics of a term's leaf, in a list that leaves the key columns out; past its end are the leaves that the file lacks
abbrev pub listed_at : List ℕ → Known → Test → Option Statistics
listed_at places known t = slice_get known.leaves (t.leaf - count_by (λ a. nat_lt a t.first.place) places)

-- the statistics of a term's leaf; of a leaf that the file lacks, those of a null in each row
abbrev pub statistics_at : List ℕ → Known → Test → Statistics
statistics_at places known t = given_or_absent known.rows (listed_at places known t)

-- A term on a key column is out where the key's value makes it false. Another is out where the null count is the number of
-- rows, or where the bounds exclude it.
abbrev pub IsOutBy : Option ValueTree → Statistics → ℕ → Test → Type 0
IsOutBy (Some v) s rows t = Holds t v → ⊥
IsOutBy None s rows t = (s.nulls ≡ rows) ⊎ Excludes t.order t.op s t.operand

-- a term is out for a group with this key and these statistics: by the key if its column is a key column, else by the statistics
abbrev pub IsOut : List ℕ → List ValueTree → Known → Test → Type 0
IsOut places key known t = IsOutBy (key_at places key t.first.place) (statistics_at places known t) known.rows t

-- the filter is not empty, and each of its ANDs has a term that is out
abbrev pub RuledOut : List (List Test) → List ℕ → List ValueTree → Known → Type 0
RuledOut ands places key known = (ands ≢ []) × AllByRecursion (AnyOf (IsOut places key known)) ands
