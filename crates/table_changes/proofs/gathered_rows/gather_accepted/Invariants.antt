use Rattle.std.proofs.Common.{List}
use Rattle.schema.specs.Values.{ValueTrees}
use Rattle.schema.specs.Fits.{RowsFit}
use Rattle.footer.specs.Left.{rows_of_file, rows_stand}
use Rattle.gather.specs.GatheredRows.{holds, schema_of}
use Rattle.table_commits.specs.Gathering.{KeepsTable, AreOnTheWay}
use Rattle.table_changes.proofs.gathered_rows.gather_accepted.Given as goal

-- of the file's rows the first are gathered, behind those from before
abbrev pub invariant-rows : goal.invariant-rows
invariant-rows l = record {
  held : (before rows : List ValueTrees) → holds l.fn.gathered before → rows_of_file l.file rows → RowsFit (schema_of l.fn.gathered) rows
      → AreOnTheWay (rows_stand l.rows) l.gathered before rows;
  some : (rows : List ValueTrees) → rows_of_file l.file rows → (left : List ValueTrees) × rows_stand l.rows left;
  table : KeepsTable l.fn.gathered l.gathered;
}
