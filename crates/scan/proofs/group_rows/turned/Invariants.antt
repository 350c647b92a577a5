use Rattle.std.proofs.Common.{◌≡◌, ◌++◌, not, map, drop}
use Rattle.scan.proofs.group_rows.turned.Given as goal

abbrev pub invariant-loop-mark : goal.invariant-loop-mark
invariant-loop-mark l = l.others.items ++ map not (drop l.mark-index l.marks) ≡ map not l.marks
