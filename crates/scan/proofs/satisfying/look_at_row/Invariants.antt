use Rattle.std.proofs.Common.{List}
use Rattle.schema.specs.Values.{ValueTree}
use Rattle.assemble.specs.Columns.{Columns}
use Rattle.assemble.specs.Standing.{AllStand}
use Rattle.filter.specs.Test.{tests_in}
use Rattle.filter.specs.Verdicts.{verdicts_in}
use Rattle.row_group.specs.Left.{chunk_stands}
use Rattle.scan.proofs.Looking.{LookLoop}
use Rattle.scan.proofs.satisfying.look_at_row.Given as goal

abbrev pub invariant-loop-k : goal.invariant-loop-k
invariant-loop-k l =
    (cs : Columns) → AllStand chunk_stands l.fn.sources cs → (before : List ValueTree)
    → LookLoop (tests_in l.filter) l.numbers l.k l.sources before (verdicts_in l.fn.verdicts) (verdicts_in l.verdicts) cs
