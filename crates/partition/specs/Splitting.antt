-- Rows split by their keys.
use Rattle.std.specs.Prelude.{◌≡◌, ◌≢◌, Bool, List, [], map, filter, Contains}
use Rattle.std.specs.List.{AllByRecursion}
use Rattle.schema.specs.Values.{ValueTree, ValueTrees}
use Rattle.schema.specs.Views.{key_view, rows_view}
use Rattle.schema.specs.Keys.{KeyColumn, key_of_row, row_without_keys}
use Rattle.partition.specs.Folders.{CanPartition}
use Rattle.partition.specs.Order.{is_same_key, AreAscending}
use Rattle.partition.specs.declared.splitting.KeyRows.{KeyRows as CodeKeyRows}

-- a key and its rows, without their values in the key columns, as files have them
pub record KeyRows : Type 0 where
  pub key : List ValueTree
  pub rows : List ValueTrees

-- the key and the rows that a `KeyRows` of the program stands for
abbrev pub key_rows_view : CodeKeyRows → KeyRows
key_rows_view k = record { key = key_view k.key; rows = rows_view k.rows.items }

-- the row has this key
abbrev pub has_key : List KeyColumn → List ValueTree → ValueTrees → Bool
has_key columns key row = is_same_key (key_of_row columns row) key

-- the rows of this key, in their order, without their values in the key columns
abbrev pub rows_with : List KeyColumn → List ValueTree → List ValueTrees → List ValueTrees
rows_with columns key rows = map (row_without_keys columns) (filter (has_key columns key) rows)

-- each row has a key that can partition
abbrev pub HaveKeys : List KeyColumn → List ValueTrees → Type 0
HaveKeys columns rows = AllByRecursion (λ row. CanPartition columns (key_of_row columns row)) rows

-- each key once, keys ascending, with exactly the rows that have it; and each row has one of the keys
pub record IsSplit (columns : List KeyColumn) (rows : List ValueTrees) (parts : List KeyRows) : Type 0 where
  pub ascending : AreAscending (map (λ p. p.key) parts)
  pub each : AllByRecursion (λ (p : KeyRows). CanPartition columns p.key × (p.rows ≡ rows_with columns p.key rows) × (p.rows ≢ [])) parts
  pub every : AllByRecursion (λ row. Contains (map (λ p. p.key) parts) (key_of_row columns row)) rows
