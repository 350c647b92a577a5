use Rattle.std.proofs.Common.{◌≡◌, ◌++◌, drop}
use Rattle.planning.specs.Runs.{sources_view}
use Rattle.table_jobs.proofs.run_sources.copied_runs.Given as goal

-- what is copied and what is left make all
abbrev pub invariant-loop-run : goal.invariant-loop-run
invariant-loop-run l = sources_view l.copies.items ++ sources_view (drop l.run-index l.runs) ≡ sources_view l.runs
