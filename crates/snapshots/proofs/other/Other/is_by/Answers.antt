use Rattle.std.proofs.Common.{◌≡◌, ℕ, false, List, [], ◌∷◌, Option, None, refl, sym, ◌∙◌, ap}
use Rattle.std.specs.List.{list_any}
use Rattle.snapshots.specs.inner.Held.{work_in, job_numbers}
use Rattle.snapshots.specs.inner.Spells.{is_number}
use Rattle.snapshots.proofs.other.Other.is_by.Goals as goal

by_none : (jobs : List ℕ) → false ≡ list_any (is_number None) jobs
by_none [] = refl
by_none (n ∷ jobs) = by_none jobs

pub returns-in-None : goal.returns-in-None
returns-in-None c = by_none (job_numbers (work_in c.args.jobs.now)) ∙ ap (λ (w : Option ℕ). list_any (is_number w) (job_numbers (work_in c.args.jobs.now))) (sym c.in-None.is)
