use Rattle.std.proofs.Common.{◌-◌, List, take}
use Rattle.schema.specs.Values.{ValueTrees}
use Rattle.schema.specs.Fits.{RowsFit}
use Rattle.footer.specs.Left.{rows_stand}
use Rattle.rowtext.specs.Rows.{BeginsLineAs}
use Rattle.program.specs.inner.Copied.{FirstStand}
use Rattle.program.specs.inner.Gathered.{AreGathered}
use Rattle.program.proofs.first_rows.write_first.Given as goal

-- of the first rows, which fit, the lines so far are written or gathered
abbrev pub invariant-loop-count : goal.invariant-loop-count
invariant-loop-count g l = (all : List ValueTrees) → rows_stand l.fn.rows all → RowsFit l.schema all
    → AreGathered l.texts l.schema (FirstStand (rows_stand l.rows) l.schema (l.limit - l.count)) (BeginsLineAs l.texts l.text l.schema) (take l.limit all) (g.W.Write.contents l.fn.out) (g.W.Write.contents l.out)
