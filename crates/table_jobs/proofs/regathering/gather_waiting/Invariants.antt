use Rattle.std.proofs.Common.{List, map, take, ◌++◌}
use Rattle.schema.specs.Values.{ValueTrees}
use Rattle.partition.specs.Splitting.{KeyRows, key_rows_view}
use Rattle.gather.specs.GatheredRows.{holds, columns_of}
use Rattle.table_commits.specs.Filling.{rows_waiting}
use Rattle.table_commits.specs.Gathering.{KeepsTable}
use Rattle.table_jobs.specs.Regathering.{AreWhole}
use Rattle.table_jobs.proofs.regathering.gather_waiting.Given as goal

-- the rows of the first keys are gathered
abbrev pub invariant-loop-rows : goal.invariant-loop-rows
invariant-loop-rows l = record {
  held : (before : List ValueTrees) (whole : List KeyRows) → holds l.fn.gathered before → AreWhole (columns_of l.fn.gathered) (map key_rows_view l.waiting) whole
      → holds l.gathered (before ++ rows_waiting (take l.rows-index whole));
  table : KeepsTable l.fn.gathered l.gathered;
}
