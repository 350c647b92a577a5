-- The groups that rows fill under their keys, and what is left of them.
use Rattle.std.specs.Prelude.{◌≡◌, ◌≢◌, ◌⊎◌, ℕ, suc, nat_lt, List, [], ◌∷◌, ◌++◌, length, map, Contains, if◌then◌else◌}
use Rattle.std.specs.List.{AllByRecursion}
use Rattle.schema.specs.Values.{ValueTree, ValueTrees}
use Rattle.schema.specs.Keys.{KeyColumn, key_of_row, row_without_keys}
use Rattle.partition.specs.Folders.{CanPartition}
use Rattle.partition.specs.Order.{AreAscending}
use Rattle.partition.specs.Splitting.{KeyRows, rows_with}

-- what waits after one more row of a key: nothing, once it is as much as a group has
abbrev pub waiting_after : ℕ → List ValueTrees → ValueTrees → List ValueTrees
waiting_after size held row = if nat_lt (suc (length held)) size then held ++ row ∷ [] else []

-- what waits after more rows of a key
abbrev pub left_after : ℕ → List ValueTrees → List ValueTrees → List ValueTrees
left_after size held [] = held
left_after size held (row ∷ rows) = left_after size (waiting_after size held row) rows

-- the rows of a key that fill no group, which are its last ones, as files have them
abbrev pub waiting_rows : List KeyColumn → ℕ → List ValueTree → List ValueTrees → List ValueTrees
waiting_rows columns size key rows = left_after size [] (rows_with columns key rows)

-- the group of a key that one more row fills, if it does
abbrev pub filled : ℕ → List ValueTree → List ValueTrees → ValueTrees → List KeyRows
filled size key held row = if nat_lt (suc (length held)) size then [] else record { key = key; rows = held ++ row ∷ [] } ∷ []

-- the group that a row fills after others, if it does
abbrev pub filled_by : List KeyColumn → ℕ → List ValueTrees → ValueTrees → List KeyRows
filled_by columns size before row = filled size (key_of_row columns row) (waiting_rows columns size (key_of_row columns row) before) (row_without_keys columns row)

-- the groups that rows fill after others, in the order in which they do
abbrev pub filled_after : List KeyColumn → ℕ → List ValueTrees → List ValueTrees → List KeyRows
filled_after columns size before [] = []
filled_after columns size before (row ∷ rows) = filled_by columns size before row ++ filled_after columns size (before ++ row ∷ []) rows

-- the groups that rows fill, in the order in which they do
abbrev pub full_groups : List KeyColumn → ℕ → List ValueTrees → List KeyRows
full_groups columns size rows = filled_after columns size [] rows

-- for each key with rows that fill no group these rows, keys ascending
pub record AreRests (columns : List KeyColumn) (size : ℕ) (rows : List ValueTrees) (rests : List KeyRows) : Type 0 where
  pub ascending : AreAscending (map (λ p. p.key) rests)
  pub each : AllByRecursion (λ (p : KeyRows). CanPartition columns p.key × (p.rows ≡ waiting_rows columns size p.key rows) × (p.rows ≢ [])) rests
  pub every : AllByRecursion (λ row. (waiting_rows columns size (key_of_row columns row) rows ≡ [])
      ⊎ Contains (map (λ p. p.key) rests) (key_of_row columns row)) rows

-- the groups of rows: those that they fill, in the order in which they do, and then the rest of each key, keys ascending
pub record AreGroups (columns : List KeyColumn) (size : ℕ) (rows : List ValueTrees) (groups : List KeyRows) : Type 0 where
  pub rests : List KeyRows
  pub parts : groups ≡ full_groups columns size rows ++ rests
  pub are : AreRests columns size rows rests
