use Rattle.std.proofs.Common.{◌≤◌, List}
use Rattle.schema.specs.Values.{ValueTrees}
use Rattle.schema.specs.Fits.{RowsFit}
use Rattle.scan.specs.Left.{rows_stand}
use Rattle.answers.specs.inner.Gathering.{HavePassed}
use Rattle.answers.specs.inner.Parts.{TakesRows, WritesAlike}
use Rattle.answers.proofs.writing_query.write_rows.Given as goal

-- the writer has the rows so far, which are rows of its columns
abbrev pub invariant-loop-count : goal.invariant-loop-count
invariant-loop-count g l = record {
  passed : (all : List ValueTrees) → rows_stand l.fn.rows all → RowsFit l.fn.writer.schema.now all
      → HavePassed (TakesRows l.fn.writer l.writer (g.S.FileSink.taken l.fn.sink) (g.S.FileSink.taken l.sink)) (rows_stand l.rows) l.count all;
  within : l.count ≤ l.most;
  alike : WritesAlike l.fn.writer l.writer;
}
