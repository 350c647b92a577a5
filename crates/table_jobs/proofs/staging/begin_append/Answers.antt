use Rattle.std.proofs.Common.{ℕ, true, false, not, None, refl, sym, ◌∙◌, ap}
use Rattle.vault.proofs.Chained.{refused}
use Rattle.snapshots.specs.State.{began, fault_of}
use Rattle.snapshots.specs.Views.{state_of}
use Rattle.table.specs.Calls.{begin_append, job}
use Rattle.table.specs.Views.{answered}
use Rattle.table_state.specs.Promises.{ActsFrom}
use Rattle.table_commits.proofs.UnchangedRefusals.{acts_shut}
use Rattle.table_reads.proofs.AppendsOpen.{asked, append_full, append_unrefused, append_begun, job_refused}
use Rattle.table_jobs.proofs.staging.begin_append.Goals as goal

pub returns-then-store-clause-acts : goal.returns-then-store-clause-acts
returns-then-store-clause-acts g c = acts_shut g.D.Disk.state c.args.store.now begin_append refl c.if-store.true

pub returns-then-not-can_open-clause-acts : goal.returns-then-not-can_open-clause-acts
returns-then-not-can_open-clause-acts g c honest s stands =
    let old = c.args.store.now in
    append_full g.D.Disk.state old s stands (sym stands.shows.closed ∙ c.if-store.false) (asked 16 old.next_job c.as_slice.result.now old.jobs.items c.can_open.result false c.as_slice.ensures.value c.can_open.ensures c.if-not-can_open.true)

pub returns-in_err-number-clause-acts : goal.returns-in_err-number-clause-acts
returns-in_err-number-clause-acts g c honest s stands =
    let old = c.args.store.now in
    let is_open = sym stands.shows.closed ∙ c.if-store.false in
    let room = asked 16 old.next_job c.as_slice.result.now old.jobs.items c.can_open.result true c.as_slice.ensures.value c.can_open.ensures c.if-not-can_open.false in
    refused (λ r. ActsFrom g.D.Disk.state old c.begin_job.new.self begin_append (answered {T = ℕ} (λ n. job n) r) s) c.from_residual.result _ c.from_residual.ensures.1
    (job_refused g.D.Disk.state old s stands is_open begin_append refl (ap not is_open) refl (fault_of (state_of old.snapshots) (began old.next_job None)) (append_unrefused g.D.Disk.state old s stands is_open room)
    c.in_err-number.field-0.0 c.in_err-number.ensures.which c.begin_job.new.self c.in_err-number.ensures.stays c.in_err-number.ensures.as_were)

pub returns-clause-acts : goal.returns-clause-acts
returns-clause-acts g c honest s stands =
    let old = c.args.store.now in
    let is_open = sym stands.shows.closed ∙ c.if-store.false in
    let room = asked 16 old.next_job c.as_slice.result.now old.jobs.items c.can_open.result true c.as_slice.ensures.value c.can_open.ensures c.if-not-can_open.false in
    append_begun g.D.Disk.state old s stands is_open room (record { written = c.new.result; waiting = c.new-2.result }) c.new.ensures.items c.new-2.ensures.items c.begin_job.new.self c.in_ok-number.ensures.steps
    c.in_ok-number.ensures.pushed c.in_ok-number.number c.in_ok-number.ensures.number c.in_ok-number.ensures.same
