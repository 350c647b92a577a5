-- Laws about the groups that rows fill.
use Rattle.std.specs.Prelude.{◌≡◌, ℕ, List, [], ◌∷◌, ◌++◌, if◌then◌else◌}
use Rattle.schema.specs.Values.{ValueTree, ValueTrees}
use Rattle.schema.specs.Keys.{KeyColumn}
use Rattle.partition.specs.Order.{is_same_key}
use Rattle.partition.specs.Splitting.{KeyRows, rows_with}
use Rattle.gather.specs.Groups.{full_groups, waiting_rows}

-- the rows of a key in some groups, one group after another
abbrev pub rows_under : List ValueTree → List KeyRows → List ValueTrees
rows_under key [] = []
rows_under key (g ∷ groups) = (if is_same_key g.key key then g.rows else []) ++ rows_under key groups

-- the rows of a key are those of its full groups, one group after another, and then those that fill no group
abbrev pub GroupsHaveRows : Type 0
GroupsHaveRows = (columns : List KeyColumn) (size : ℕ) (rows : List ValueTrees) (key : List ValueTree)
    → rows_under key (full_groups columns size rows) ++ waiting_rows columns size key rows ≡ rows_with columns key rows
