use Rattle.std.proofs.Common.{◌≡◌, drop}
use Rattle.table_state.specs.Lookups.{job_at}
use Rattle.table_state.proofs.lookup.find_job.Given as goal

-- it is none of those before
abbrev pub invariant-loop-job : goal.invariant-loop-job
invariant-loop-job l = record { left : job_at l.number l.jobs ≡ job_at l.number (drop l.job-index l.jobs) }
