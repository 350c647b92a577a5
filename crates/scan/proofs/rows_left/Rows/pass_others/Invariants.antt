use Rattle.std.proofs.Common.{List}
use Rattle.schema.specs.Values.{ValueTrees}
use Rattle.scan.specs.Left.{rows_stand}
use Rattle.scan.proofs.rows_left.Rows.pass_others.Given as goal

-- the rows that stood stand still
abbrev pub invariant-others : goal.invariant-others
invariant-others l = (rows : List ValueTrees) → rows_stand l.fn.self rows → rows_stand l.self rows

abbrev pub decreases-others : goal.decreases-others
decreases-others l = l.self.left
