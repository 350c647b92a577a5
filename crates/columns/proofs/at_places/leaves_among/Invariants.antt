use Rattle.std.proofs.Common.{◌≡◌, ◌++◌, drop, map}
use Rattle.schema.specs.Views.{leaf_view}
use Rattle.columns.specs.inner.Among.{leaves_among}
use Rattle.columns.proofs.at_places.leaves_among.Given as goal

-- the leaves so far, and those among the leaves that are left, are all
abbrev pub invariant-loop-index : goal.invariant-loop-index
invariant-loop-index l = l.among.items ++ leaves_among l.places l.index (map leaf_view (drop l.index l.leaves)) ≡ leaves_among l.places 0 (map leaf_view l.leaves)
