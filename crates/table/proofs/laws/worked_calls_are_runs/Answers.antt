use Rattle.table.proofs.WorkedColumns.{columns_run}
use Rattle.table.proofs.WorkedFull.{full_run}
use Rattle.table.proofs.WorkedKeys.{keyed_run}
use Rattle.table.proofs.WorkedNumbers.{numbers_run}
use Rattle.table.proofs.laws.worked_calls_are_runs.Goals as goal

pub returns-clause-numbers : goal.returns-clause-numbers
returns-clause-numbers c = numbers_run

pub returns-clause-keyed : goal.returns-clause-keyed
returns-clause-keyed c = keyed_run

pub returns-clause-full : goal.returns-clause-full
returns-clause-full c = full_run

pub returns-clause-columns : goal.returns-clause-columns
returns-clause-columns c = columns_run
