use Rattle.std.proofs.Common.{◌≡◌, List}
use Rattle.schema.specs.Values.{ValueTrees}
use Rattle.schema.specs.Fits.{RowsFit}
use Rattle.scan.specs.Left.{rows_held, rows_stand}
use Rattle.shred.specs.Buffer.{schema_of, holds}
use Rattle.table_commits.specs.Showing.{AreAdded}
use Rattle.table_reads.proofs.showing.show_rows.Given as goal

-- of the rows the first are added
abbrev pub invariant-rows : goal.invariant-rows
invariant-rows l = record {
  held : (rows held : List ValueTrees) → rows_held l.group rows → RowsFit (schema_of l.fn.buffer) rows → holds l.fn.buffer held → AreAdded (rows_stand l.rows) l.buffer held rows;
  some : (rows : List ValueTrees) → rows_held l.group rows → (left : List ValueTrees) × rows_stand l.rows left;
  schema : schema_of l.buffer ≡ schema_of l.fn.buffer;
}
