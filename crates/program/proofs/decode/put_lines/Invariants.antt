use Rattle.std.proofs.Common.{ℕ, Bool, List, Option}
use Rattle.schema.specs.Values.{ValueTrees}
use Rattle.schema.specs.Shape.{Fields}
use Rattle.footer.specs.Left.{rows_stand}
use Rattle.rowtext.specs.Rows.{BeginsLineAs}
use Rattle.program.specs.inner.Gathered.{AreGathered}
use Rattle.program.proofs.decode.put_lines.Given as goal

-- of all rows, the lines so far are written or gathered
abbrev pub invariant-loop-count : goal.invariant-loop-count
invariant-loop-count l = (texts : Bool) (fs : Fields) (all : List ValueTrees) (old new : Option (List ℕ)) → AreGathered texts fs (rows_stand l.fn.rows) (BeginsLineAs texts l.fn.text fs) all old new → AreGathered texts fs (rows_stand l.rows) (BeginsLineAs texts l.text fs) all old new
