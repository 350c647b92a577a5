use Rattle.std.proofs.Common.{take}
use Rattle.jsonrows.specs.Answers.{group_json}
use Rattle.answers.proofs.Answered.{ArePrinted}
use Rattle.answers.proofs.querying.print_each_group.Given as goal

-- the groups so far are printed
abbrev pub invariant-loop-group : goal.invariant-loop-group
invariant-loop-group g l = ArePrinted group_json (take l.group-index l.groups) (g.W.Write.contents l.fn.out) (g.W.Write.contents l.out)
