use Rattle.std.proofs.Common.{◌≡◌, ◌≤◌, ℕ, Some, false, List, option_map}
use Rattle.schema.specs.Values.{ValueTrees}
use Rattle.footer.specs.Left.{rows_of_file, rows_stand}
use Rattle.footer.specs.Writer.{has_rows, schema_of, options_of}
use Rattle.program.specs.inner.Copied.{ArePassed, cut_at}
use Rattle.program.proofs.copy.written.Given as goal

-- the writer has the rows so far; where no progress is shown, none is written
abbrev pub invariant-loop-count : goal.invariant-loop-count
invariant-loop-count g l = record {
  passed : (all : List ValueTrees) → rows_of_file l.file all → ArePassed (has_rows l.writer) (rows_stand l.rows) (cut_at (option_map (λ ps. ps.now) l.places)) l.count all;
  within : (k : ℕ) → l.limit ≡ Some k → l.count ≤ k;
  schema : schema_of l.writer ≡ l.schema;
  options : options_of l.writer ≡ l.options;
  quiet : l.fn.progress.is_shown ≡ false → g.E.Write.contents l.err ≡ g.E.Write.contents l.fn.err;
  same : l.progress.is_shown ≡ l.fn.progress.is_shown;
}
