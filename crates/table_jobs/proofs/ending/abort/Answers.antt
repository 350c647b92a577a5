use Rattle.std.proofs.Common.{refl, sym, ◌∙◌, ap}
use Rattle.vault.proofs.Chained.{refused}
use Rattle.table.specs.Calls.{abort, accepted}
use Rattle.table.specs.Views.{answered}
use Rattle.table_state.specs.Lookups.{job_at}
use Rattle.table_state.specs.Promises.{ActsFrom}
use Rattle.table_commits.proofs.UnchangedRefusals.{acts_shut}
use Rattle.table_reads.proofs.SomethingEnds.{not_there, is_there, job_ended}
use Rattle.table_reads.proofs.AbortsAndCloses.{no_job, abort_refused, aborted}
use Rattle.table_jobs.proofs.ending.abort.Goals as goal

pub returns-then-store-clause-acts : goal.returns-then-store-clause-acts
returns-then-store-clause-acts g c = acts_shut g.D.Disk.state c.args.store.now (abort c.args.job) refl c.if-store.true

pub returns-then-is_none-clause-acts : goal.returns-then-is_none-clause-acts
returns-then-is_none-clause-acts g c honest s stands =
    let old = c.args.store.now in
    let none = not_there (λ j. j.now) c.find_job.result (job_at c.args.job c.as_slice.result.now) c.is_none.result c.is_none.ensures c.if-is_none.true c.find_job.ensures in
    no_job g.D.Disk.state old s stands (sym stands.shows.closed ∙ c.if-store.false) c.args.job (ap (job_at c.args.job) (sym c.as_slice.ensures.value) ∙ none)

pub returns-in_err-step-clause-acts : goal.returns-in_err-step-clause-acts
returns-in_err-step-clause-acts g c honest s stands =
    let old = c.args.store.now in
    let some = is_there (λ j. j.now) c.find_job.result (job_at c.args.job c.as_slice.result.now) c.is_none.result c.is_none.ensures c.if-is_none.false c.find_job.ensures in
    let found = ap (job_at c.args.job) (sym c.as_slice.ensures.value) ∙ some.1 in
    refused (λ r. ActsFrom g.D.Disk.state old (record old { snapshots = c.step.new.self }) (abort c.args.job) (answered {T = Unit {0}} (λ x. accepted) r) s) c.from_residual.result _ c.from_residual.ensures.1
    (abort_refused g.D.Disk.state old s stands (sym stands.shows.closed ∙ c.if-store.false) c.args.job some.0 found c.in_err-step.field-0.0 c.in_err-step.ensures.which c.step.new.self c.in_err-step.ensures.unchanged)

pub returns-clause-acts : goal.returns-clause-acts
returns-clause-acts g c honest s stands =
    let old = c.args.store.now in
    let some = is_there (λ j. j.now) c.find_job.result (job_at c.args.job c.as_slice.result.now) c.is_none.result c.is_none.ensures c.if-is_none.false c.find_job.ensures in
    let found = ap (job_at c.args.job) (sym c.as_slice.ensures.value) ∙ some.1 in
    aborted g.D.Disk.state old s stands (sym stands.shows.closed ∙ c.if-store.false) c.args.job some.0 found c.step.new.self c.in_ok-step.ensures.done c.end_job.new.jobs c.end_job.ensures c.let_go.new.store
    (c.let_go.ensures.clears honest) c.let_go.ensures.keeps

pub returns-clause-tidy : goal.returns-clause-tidy
returns-clause-tidy g c honest s stands keeps =
    let is_open = sym stands.shows.closed ∙ c.if-store.false in
    let shown = job_ended g.D.Disk.state c.args.store.now s stands is_open c.args.job c.step.new.self c.in_ok-step.ensures.done c.end_job.new.jobs c.end_job.ensures in
    c.let_go.ensures.tidy honest (shown.shown is_open).tracked keeps
