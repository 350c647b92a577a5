use Rattle.std.proofs.Common.{take}
use Rattle.mem_disk.specs.Left.{EachOf, IsLeft, left_in}
use Rattle.mem_disk.proofs.left.left_names.Given as goal

abbrev pub invariant-loop-name : goal.invariant-loop-name
invariant-loop-name l = EachOf (IsLeft (left_in l.fn.picked.list.items)) (take l.name-index l.fn.picked.list.items) l.left.items
