use Rattle.std.proofs.Common.{◌≡◌, false, map}
use Rattle.schema.specs.Views.{rows_view}
use Rattle.rowtext.specs.Reader.{schema_of}
use Rattle.commands.specs.RowLines.{AreRowTexts}
use Rattle.commands.proofs.row_lines.read_rows.Given as goal

-- the lines so far are the rows so far; where no progress is shown, none is written
abbrev pub invariant-loop-line : goal.invariant-loop-line
invariant-loop-line g l = record {
  read : AreRowTexts l.texts l.schema (map (λ text. text.now) l.yielded) (rows_view l.rows.items);
  fields : schema_of l.reader ≡ l.schema;
  quiet : l.fn.progress.is_shown ≡ false → g.E.Write.contents l.err ≡ g.E.Write.contents l.fn.err;
  same : l.progress.is_shown ≡ l.fn.progress.is_shown;
}
