use Rattle.std.proofs.Common.{◌≡◌, ◌++◌, drop}
use Rattle.manifest.specs.Groups.{handles_view, numbers_of}
use Rattle.table_jobs.proofs.run_sources.push_numbers.Given as goal

-- what is there and what is left make all
abbrev pub invariant-loop-group : goal.invariant-loop-group
invariant-loop-group l = l.numbers.items ++ numbers_of (handles_view (drop l.group-index l.groups)) ≡ l.initial.numbers.items ++ numbers_of (handles_view l.groups)
