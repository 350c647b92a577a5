use Rattle.std.proofs.Common.{◌≡◌, ◌++◌, map, drop}
use Rattle.thrift_compact.specs.View.{view}
use Rattle.metadata.proofs.put.nodes.Given as goal

-- the values so far and those that are left to write are all of them
abbrev pub invariant-loop-item : goal.invariant-loop-item
invariant-loop-item g l =
    let write = g.T.ToNode.write in
    let shown = g.T.ToNode.shown in
    map view l.values.items ++ map write (map shown (drop l.item-index l.items)) ≡ map write (map shown l.items)
