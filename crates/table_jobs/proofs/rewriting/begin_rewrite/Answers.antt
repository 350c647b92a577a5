use Rattle.std.proofs.Common.{ℕ, ◌≡◌, true, false, not, List, Some, refl, sym, ◌∙◌, ap}
use Rattle.std.specs.List.{list_all}
use Rattle.bits.specs.declared.refusal.Refusal.TheVariants.{Memory}
use Rattle.schema.specs.Cutting.{is_among}
use Rattle.vault.proofs.Chained.{refused}
use Rattle.vault.specs.Calls.{HasFailed}
use Rattle.manifest.specs.Groups.{Group as FileGroup, numbers_of}
use Rattle.planning.specs.Runs.{runs_in}
use Rattle.snapshots.specs.State.{began, after, fault_of}
use Rattle.snapshots.specs.Views.{state_of}
use Rattle.table.specs.Calls.{begin_rewrite, job}
use Rattle.table.specs.Refusing.{is_failure}
use Rattle.table.specs.Views.{answered}
use Rattle.table_state.specs.Promises.{ActsFrom}
use Rattle.table_commits.proofs.UnchangedRefusals.{acts_shut, acts_poor}
use Rattle.table_commits.proofs.GroupRemovals.{poor}
use Rattle.table_reads.proofs.SomethingOpens.{only_poor}
use Rattle.table_reads.proofs.AppendsOpen.{asked, job_refused}
use Rattle.table_jobs.proofs.RewritesBegin.{rewrite_full, rewrite_no_group, rewrite_unrefused, rewrite_begun}
use Rattle.table_jobs.proofs.rewriting.begin_rewrite.Goals as goal

pub returns-then-store-clause-acts : goal.returns-then-store-clause-acts
returns-then-store-clause-acts g c = acts_shut g.D.Disk.state c.args.store.now (begin_rewrite c.args.numbers.now) refl c.if-store.true

pub returns-then-not-can_open-clause-acts : goal.returns-then-not-can_open-clause-acts
returns-then-not-can_open-clause-acts g c honest s stands =
    let old = c.args.store.now in
    rewrite_full g.D.Disk.state old s stands (sym stands.shows.closed ∙ c.if-store.false) c.args.numbers.now (asked 16 old.next_job c.as_slice.result.now old.jobs.items c.can_open.result false c.as_slice.ensures.value c.can_open.ensures c.if-not-can_open.true)

pub returns-in_err-has_all-clause-acts : goal.returns-in_err-has_all-clause-acts
returns-in_err-has_all-clause-acts g c honest s stands =
    let old = c.args.store.now in
    let call = begin_rewrite c.args.numbers.now in
    refused (λ r. ActsFrom g.D.Disk.state old old call (answered {T = ℕ} (λ n. job n) r) s) c.from_residual.result _ c.from_residual.ensures.1
    (poor g.D.Disk.state old call refl (λ t e. ap not e) (λ t. refl) c.in_err-has_all.field-0.0 c.in_err-has_all.ensures.which c.if-store.false honest s stands)

pub returns-then-not-branch-clause-acts : goal.returns-then-not-branch-clause-acts
returns-then-not-branch-clause-acts g c honest s stands =
    let old = c.args.store.now in
    let ns = c.args.numbers.now in
    let room = asked 16 old.next_job c.as_slice.result.now old.jobs.items c.can_open.result true c.as_slice.ensures.value c.can_open.ensures c.if-not-can_open.false in
    let groups = ap (λ (gs : List FileGroup). list_all (is_among (numbers_of gs)) ns) c.groups.ensures.are in
    rewrite_no_group g.D.Disk.state old s stands (sym stands.shows.closed ∙ c.if-store.false) ns room (sym groups ∙ sym c.in_ok-has_all.ensures.all ∙ c.if-not-branch.true)

pub returns-in_err-sources-clause-acts : goal.returns-in_err-sources-clause-acts
returns-in_err-sources-clause-acts g c honest s stands =
    let old = c.args.store.now in
    let call = begin_rewrite c.args.numbers.now in
    refused (λ r. ActsFrom g.D.Disk.state old old call (answered {T = ℕ} (λ n. job n) r) s) c.from_residual-in_err-sources.result Memory c.from_residual-in_err-sources.ensures.1
    (acts_poor g.D.Disk.state old call refl (λ t e. ap not e) (λ t. refl) c.if-store.false honest s stands)

pub returns-in_err-read-clause-acts : goal.returns-in_err-read-clause-acts
returns-in_err-read-clause-acts g c honest s stands =
    let old = c.args.store.now in
    let call = begin_rewrite c.args.numbers.now in
    refused (λ r. ActsFrom g.D.Disk.state old old call (answered {T = ℕ} (λ n. job n) r) s) c.from_residual-in_err-read.result Memory c.from_residual-in_err-read.ensures.1
    (acts_poor g.D.Disk.state old call refl (λ t e. ap not e) (λ t. refl) c.if-store.false honest s stands)

pub returns-in_err-runs-clause-acts : goal.returns-in_err-runs-clause-acts
returns-in_err-runs-clause-acts g c honest s stands =
    let old = c.args.store.now in
    let call = begin_rewrite c.args.numbers.now in
    refused (λ r. ActsFrom g.D.Disk.state old old call (answered {T = ℕ} (λ n. job n) r) s) c.from_residual-in_err-runs.result _ c.from_residual-in_err-runs.ensures.1
    (poor g.D.Disk.state old call refl (λ t e. ap not e) (λ t. refl) c.in_err-runs.field-0.0 c.in_err-runs.ensures.which c.if-store.false honest s stands)

pub returns-in_err-number-clause-acts : goal.returns-in_err-number-clause-acts
returns-in_err-number-clause-acts g c honest s stands =
    let old = c.args.store.now in
    let ns = c.args.numbers.now in
    let is_open = sym stands.shows.closed ∙ c.if-store.false in
    let room = asked 16 old.next_job c.as_slice.result.now old.jobs.items c.can_open.result true c.as_slice.ensures.value c.can_open.ensures c.if-not-can_open.false in
    let groups = ap (λ (gs : List FileGroup). list_all (is_among (numbers_of gs)) ns) c.groups.ensures.are in
    let there = sym groups ∙ sym c.in_ok-has_all.ensures.all ∙ c.if-not-branch.false in
    let sources = c.in_ok-sources.ensures.items in
    let none = ap (λ (ms : List ℕ). fault_of (state_of old.snapshots) (began old.next_job (Some ms))) sources ∙ rewrite_unrefused g.D.Disk.state old s stands is_open ns room there in
    let failed = c.in_err-number in
    refused (λ r. ActsFrom g.D.Disk.state old c.begin_job.new.self (begin_rewrite ns) (answered {T = ℕ} (λ n. job n) r) s) c.from_residual-in_err-number.result _ c.from_residual-in_err-number.ensures.1
    (job_refused g.D.Disk.state old s stands is_open (begin_rewrite ns) refl (ap not is_open) refl (fault_of (state_of old.snapshots) (began old.next_job (Some c.in_ok-sources.sources.items))) none
    failed.field-0.0 failed.ensures.which c.begin_job.new.self failed.ensures.stays failed.ensures.as_were)

pub returns-in_err-number-clause-cause : goal.returns-in_err-number-clause-cause
returns-in_err-number-clause-cause g c honest s stands =
    let old = c.args.store.now in
    let ns = c.args.numbers.now in
    let is_open = sym stands.shows.closed ∙ c.if-store.false in
    let room = asked 16 old.next_job c.as_slice.result.now old.jobs.items c.can_open.result true c.as_slice.ensures.value c.can_open.ensures c.if-not-can_open.false in
    let groups = ap (λ (gs : List FileGroup). list_all (is_among (numbers_of gs)) ns) c.groups.ensures.are in
    let there = sym groups ∙ sym c.in_ok-has_all.ensures.all ∙ c.if-not-branch.false in
    let sources = c.in_ok-sources.ensures.items in
    let none = ap (λ (ms : List ℕ). fault_of (state_of old.snapshots) (began old.next_job (Some ms))) sources ∙ rewrite_unrefused g.D.Disk.state old s stands is_open ns room there in
    let failed = c.in_err-number in
    refused (λ r. is_failure (answered {T = ℕ} (λ n. job n) r) ≡ true → HasFailed (g.D.Disk.state old.vault.disk) (g.D.Disk.state c.begin_job.new.self.vault.disk)) c.from_residual-in_err-number.result _ c.from_residual-in_err-number.ensures.1
    (λ h. absurd (only_poor (fault_of (state_of old.snapshots) (began old.next_job (Some c.in_ok-sources.sources.items))) none failed.field-0.0 failed.ensures.which h))

pub returns-clause-acts : goal.returns-clause-acts
returns-clause-acts g c honest s stands =
    let old = c.args.store.now in
    let ns = c.args.numbers.now in
    let is_open = sym stands.shows.closed ∙ c.if-store.false in
    let room = asked 16 old.next_job c.as_slice.result.now old.jobs.items c.can_open.result true c.as_slice.ensures.value c.can_open.ensures c.if-not-can_open.false in
    let groups = ap (λ (gs : List FileGroup). list_all (is_among (numbers_of gs)) ns) c.groups.ensures.are in
    let there = sym groups ∙ sym c.in_ok-has_all.ensures.all ∙ c.if-not-branch.false in
    let steps = c.in_ok-number.ensures.steps ∙ ap (λ (ms : List ℕ). after (state_of old.snapshots) (began old.next_job (Some ms))) c.in_ok-sources.ensures.items in
    let told = c.in_ok-runs.ensures.runs ∙ ap (λ (gs : List FileGroup). runs_in ns gs) c.groups-2.ensures.are in
    rewrite_begun g.D.Disk.state old s stands is_open ns room there (record { runs = c.in_ok-runs.runs; read = c.in_ok-read.read }) told c.in_ok-read.ensures.items c.begin_job.new.self steps
    c.in_ok-number.ensures.pushed c.in_ok-number.number c.in_ok-number.ensures.number c.in_ok-number.ensures.same
