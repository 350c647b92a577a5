use Rattle.std.proofs.Common.{take}
use Rattle.mem_disk.specs.Left.{EachOf, IsCopy}
use Rattle.mem_disk.proofs.left.copies_of.Given as goal

abbrev pub invariant-loop-node : goal.invariant-loop-node
invariant-loop-node l = EachOf IsCopy (take l.node-index l.nodes) l.copies.items
