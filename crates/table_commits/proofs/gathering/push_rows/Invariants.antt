use Rattle.std.proofs.Common.{List, take, ◌++◌}
use Rattle.schema.specs.Values.{ValueTrees}
use Rattle.schema.specs.Views.{rows_view}
use Rattle.gather.specs.GatheredRows.{holds}
use Rattle.table_commits.specs.Gathering.{KeepsTable}
use Rattle.table_commits.proofs.gathering.push_rows.Given as goal

-- the rows so far are gathered
abbrev pub invariant-loop-row : goal.invariant-loop-row
invariant-loop-row l = record {
  held : (before : List ValueTrees) → holds l.fn.gathered before → holds l.gathered (before ++ rows_view (take l.row-index l.rows));
  table : KeepsTable l.fn.gathered l.gathered;
}
