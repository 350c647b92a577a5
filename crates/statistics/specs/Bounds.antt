-- What the statistics of a column say of it: parquet.thrift, Statistics (null_count, max_value, min_value).
use Rattle.std.specs.Prelude.{◌≡◌, ℕ, ◌≤◌, List, Option, IfSome, is_none, length, count_by, map, Contains, option_map, Some, ◌↔◌}
use Rattle.std.specs.List.{filter_map, AllByRecursion}
use Rattle.schema.specs.declared.order.Order.{Order}
use Rattle.schema.specs.Values.{ValueTree, bytes, view}
use Rattle.schema.specs.Stripe.{Entry}
use Rattle.schema.specs.Orders.{IsAtMost}
use Rattle.statistics.specs.declared.stats.Stats.{Stats}
use Rattle.statistics.specs.declared.stats.GroupStats.{GroupStats}

-- the two bounds, where they are there, and the number of entries without a value
pub record Statistics : Type 0 where
  pub min : Option ValueTree
  pub max : Option ValueTree
  pub nulls : ℕ

-- what the program's value says of the statistics of a column
abbrev pub statistics_of : Stats → Statistics
statistics_of s = record { min = option_map view s.min; max = option_map view s.max; nulls = s.nulls }

-- a number of rows, and the statistics of each leaf of the file
pub record Known : Type 0 where
  pub rows : ℕ
  pub leaves : List Statistics

-- what the program's value says of a group: its number of rows, and the statistics of each leaf
abbrev pub known_of : GroupStats → Known
known_of g = record { rows = g.rows; leaves = map statistics_of g.leaves.items }

-- the values of a column
abbrev pub values : List Entry → List ValueTree
values column = filter_map (λ e. e.value) column

-- the number of entries without a value
abbrev pub null_count : List Entry → ℕ
null_count column = count_by (λ e. is_none e.value) column

-- the bound is below each of the values in this order, or equal to it
abbrev pub IsMinimum : Option Order → List ValueTree → ValueTree → Type 0
IsMinimum order vs m = AllByRecursion (λ v. IsAtMost order m v) vs

-- the bound is above each of the values in this order, or equal to it
abbrev pub IsMaximum : Option Order → List ValueTree → ValueTree → Type 0
IsMaximum order vs m = AllByRecursion (λ v. IsAtMost order v m) vs

-- each bound that is there has every value of the column on its side in the leaf's order, and the null count is the number
-- of entries without a value
pub record Bounds (order : Option Order) (s : Statistics) (column : List Entry) : Type 0 where
  pub minimum : IfSome s.min (IsMinimum order (values column))
  pub maximum : IfSome s.max (IsMaximum order (values column))
  pub nulls : s.nulls ≡ null_count column

-- the bound is one of the values, and below each of them in this order, or equal to it
abbrev pub IsLeast : Option Order → List ValueTree → ValueTree → Type 0
IsLeast order vs m = Contains vs m × IsMinimum order vs m

-- the bound is one of the values, and above each of them in this order, or equal to it
abbrev pub IsGreatest : Option Order → List ValueTree → ValueTree → Type 0
IsGreatest order vs m = Contains vs m × IsMaximum order vs m

-- a value that is kept as a bound has at most 64 bytes (this store's own limit)
abbrev pub IsKeptAsBound : ValueTree → Type 0
IsKeptAsBound (bytes s) = length s ≤ 64
IsKeptAsBound _ = Unit {0}

-- The bounds are the least and the greatest value of a column, each by itself: there exactly when the leaf has an order, a
-- value is there, and the value is kept as a bound. (In no order there is a least or a greatest value.)
pub record AreLeastAndGreatest (order : Option Order) (s : Statistics) (column : List Entry) : Type 0 where
  pub least : (m : ValueTree) → (s.min ≡ Some m) ↔ (IsLeast order (values column) m × IsKeptAsBound m)
  pub greatest : (m : ValueTree) → (s.max ≡ Some m) ↔ (IsGreatest order (values column) m × IsKeptAsBound m)
