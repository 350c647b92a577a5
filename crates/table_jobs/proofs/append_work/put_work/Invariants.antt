use Rattle.std.proofs.Common.{◌≡◌, ◌==◌, false, take}
use Rattle.std.specs.List.{AllByRecursion}
use Rattle.table_state.specs.declared.jobs.OpenJob.{OpenJob}
use Rattle.table_jobs.proofs.append_work.put_work.Given as goal

-- it is none of those before
abbrev pub invariant-loop-i : goal.invariant-loop-i
invariant-loop-i l = record { same : l.jobs ≡ l.initial.jobs; none : AllByRecursion (λ (j : OpenJob). (j.number == l.number) ≡ false) (take l.i l.initial.jobs) }
