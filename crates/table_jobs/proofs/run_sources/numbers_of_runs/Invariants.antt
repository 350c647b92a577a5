use Rattle.std.proofs.Common.{◌≡◌, ◌++◌, drop}
use Rattle.planning.specs.Runs.{sources_view}
use Rattle.table_jobs.specs.Rewritten.{numbers_of_runs}
use Rattle.table_jobs.proofs.run_sources.numbers_of_runs.Given as goal

-- what is told and what is left make all
abbrev pub invariant-loop-run : goal.invariant-loop-run
invariant-loop-run l = l.numbers.items ++ numbers_of_runs (sources_view (drop l.run-index l.runs)) ≡ numbers_of_runs (sources_view l.runs)
