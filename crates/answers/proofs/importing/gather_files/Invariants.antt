use Rattle.std.proofs.Common.{[], take}
use Rattle.gather.specs.GatheredRows.{holds, schema_of, columns_of}
use Rattle.table_commits.specs.Gathering.{KeepsTable}
use Rattle.answers.specs.Importing.{files_view}
use Rattle.answers.specs.inner.GatheredFiles.{HoldsFiles}
use Rattle.answers.proofs.importing.gather_files.Given as goal

-- the rows of the files so far are gathered
abbrev pub invariant-loop-place : goal.invariant-loop-place
invariant-loop-place l = record {
  gathers : holds l.fn.gathered [] → HoldsFiles (schema_of l.fn.gathered) (columns_of l.fn.gathered) (files_view (take l.place l.files)) l.gathered;
  table : KeepsTable l.fn.gathered l.gathered;
}
