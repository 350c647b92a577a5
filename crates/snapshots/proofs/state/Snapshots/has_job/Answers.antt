use Rattle.std.proofs.Common.{ℕ, List, Option, sym, ap, ◌∙◌}
use Rattle.std.specs.Rc.{rc_value}
use Rattle.snapshots.specs.State.{job_is_open}
use Rattle.snapshots.specs.Views.{state_of}
use Rattle.snapshots.specs.inner.Held.{work_in, job_numbers}
use Rattle.snapshots.specs.inner.Spells.{others_in}
use Rattle.snapshots.specs.declared.held.Job.{Job}
use Rattle.std.specs.List.{list_any}
use Rattle.std.proofs.Common.{Vec, Global, ◌==◌}
use Rattle.snapshots.proofs.States.{open_jobs}
use Rattle.snapshots.proofs.state.Snapshots.has_job.Goals as goal

pub returns-in-Some : goal.returns-in-Some
returns-in-Some c = c.is_job.ensures
    ∙ ap (λ (js : List Job). list_any (λ n. n == c.in-Some.number) (job_numbers (work_in js))) (c.as_slice.ensures.value ∙ ap (λ (v : Vec Job Global). v.items) c.deref.ensures)
    ∙ open_jobs c.in-Some.number (others_in c.args.self.now.others) (work_in (rc_value c.args.self.now.jobs).items)
    ∙ ap (λ (job : Option ℕ). job_is_open (state_of c.args.self.now) job) (sym c.in-Some.is)
