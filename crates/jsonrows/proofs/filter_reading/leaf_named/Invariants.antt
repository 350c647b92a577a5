use Rattle.std.proofs.Common.{◌≡◌, drop, map}
use Rattle.schema.specs.Views.{leaf_view}
use Rattle.filter.specs.Terms.{names_of}
use Rattle.jsonrows.specs.Filters.{leaf_named}
use Rattle.jsonrows.proofs.filter_reading.leaf_named.Given as goal

-- the leaves that are left give the answer
abbrev pub invariant-loop-leaf : goal.invariant-loop-leaf
invariant-loop-leaf l = leaf_named (map leaf_view (drop l.leaf-index l.leaves)) (names_of l.names) ≡ leaf_named (map leaf_view l.leaves) (names_of l.names)
