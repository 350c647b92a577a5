use Rattle.mem_disk.proofs.Keeping.{SettledTo}
use Rattle.mem_disk.proofs.names.settle.Given as goal

abbrev pub invariant-loop-name : goal.invariant-loop-name
invariant-loop-name l = SettledTo l.folder l.name-index l.fn.names.items l.name-items
