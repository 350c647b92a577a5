use Rattle.std.proofs.Common.{◌≤◌, ◌+◌, map, drop}
use Rattle.std.specs.Prelude.{sum_by}
use Rattle.schema.specs.Views.{leaf_view}
use Rattle.table_changes.specs.RootLimit.{least_of_leaf}
use Rattle.table_changes.proofs.root_limit.weight_of_leaves.Given as goal

-- what is left makes the sum whole, or more than it is
abbrev pub invariant-loop-leaf : goal.invariant-loop-leaf
invariant-loop-leaf l = l.weight + sum_by least_of_leaf (map leaf_view (drop l.leaf-index l.leaves)) ≤ sum_by least_of_leaf (map leaf_view l.leaves)
