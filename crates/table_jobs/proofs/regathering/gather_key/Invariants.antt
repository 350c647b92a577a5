use Rattle.std.proofs.Common.{List, take, ◌++◌}
use Rattle.schema.specs.Keys.{AreRowsOf}
use Rattle.schema.specs.Values.{ValueTrees}
use Rattle.schema.specs.Views.{key_view, rows_view}
use Rattle.gather.specs.GatheredRows.{holds, columns_of}
use Rattle.table_commits.specs.Gathering.{KeepsTable}
use Rattle.table_jobs.proofs.regathering.gather_key.Given as goal

-- the first rows are gathered
abbrev pub invariant-loop-stored : goal.invariant-loop-stored
invariant-loop-stored l = record {
  held : (before whole : List ValueTrees) → holds l.fn.gathered before → AreRowsOf (columns_of l.fn.gathered) (key_view l.waiting.key) (rows_view l.waiting.rows.items) whole
      → holds l.gathered (before ++ take l.stored-index whole);
  table : KeepsTable l.fn.gathered l.gathered;
}
