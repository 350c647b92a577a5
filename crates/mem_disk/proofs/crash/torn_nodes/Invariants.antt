use Rattle.std.proofs.Common.{take}
use Rattle.mem_disk.specs.Left.{EachOf, IsTorn}
use Rattle.mem_disk.specs.Picks.{words_left, PicksNode, after_node}
use Rattle.mem_disk.proofs.Picking.{Turns}
use Rattle.mem_disk.proofs.crash.torn_nodes.Given as goal

abbrev pub invariant-loop-node : goal.invariant-loop-node
invariant-loop-node l = record {
  each : EachOf IsTorn (take l.node-index l.nodes) l.left.items;
  turns : Turns PicksNode after_node l.nodes l.node-index (words_left l.fn.picks) (words_left l.picks) l.left.items;
}
