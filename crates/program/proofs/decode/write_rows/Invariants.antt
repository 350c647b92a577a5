use Rattle.std.proofs.Common.{◌≡◌, false, List}
use Rattle.schema.specs.Values.{ValueTrees}
use Rattle.schema.specs.Fits.{RowsFit}
use Rattle.footer.specs.Left.{rows_stand}
use Rattle.rowtext.specs.Rows.{BeginsLineAs}
use Rattle.program.specs.inner.Gathered.{AreGathered}
use Rattle.program.proofs.decode.write_rows.Given as goal

-- of all rows, which fit, the lines so far are written or gathered; where no progress is shown, none is written
abbrev pub invariant-more : goal.invariant-more
invariant-more g l = record {
  gathers : (all : List ValueTrees) → rows_stand l.fn.rows all → RowsFit l.schema all
      → AreGathered l.texts l.schema (rows_stand l.rows) (BeginsLineAs l.texts l.text l.schema) all (g.W.Write.contents l.fn.out) (g.W.Write.contents l.out);
  quiet : l.fn.progress.is_shown ≡ false → g.E.Write.contents l.err ≡ g.E.Write.contents l.fn.err;
  same : l.progress.is_shown ≡ l.fn.progress.is_shown;
}
