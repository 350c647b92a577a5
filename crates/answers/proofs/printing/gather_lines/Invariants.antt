use Rattle.std.proofs.Common.{◌≡◌, ◌≤◌, ℕ, Bool, List, [], Some}
use Rattle.schema.specs.Values.{ValueTrees}
use Rattle.schema.specs.Shape.{Fields}
use Rattle.schema.specs.Fits.{RowsFit}
use Rattle.rowtext.specs.Rows.{BeginsLineAs}
use Rattle.scan.specs.Left.{rows_stand}
use Rattle.answers.specs.inner.Gathering.{HavePassed, AreGathered}
use Rattle.answers.proofs.printing.gather_lines.Given as goal

-- of all rows, which fit, the lines so far are written or gathered
abbrev pub invariant-loop-count : goal.invariant-loop-count
invariant-loop-count g l = record {
  gathers : (texts : Bool) (fs : Fields) (all : List ValueTrees) → BeginsLineAs texts l.fn.text fs [] → rows_stand l.fn.rows all → RowsFit fs all
      → HavePassed (λ (rows : List ValueTrees). AreGathered texts fs rows l.text (g.W.Write.contents l.fn.out) (g.W.Write.contents l.out)) (rows_stand l.rows) l.count all;
  within : (most : ℕ) → l.limit ≡ Some most → l.count ≤ most;
}
