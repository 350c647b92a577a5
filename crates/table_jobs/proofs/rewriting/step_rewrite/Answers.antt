use Rattle.std.proofs.Common.{◌≡◌, ◌≤◌, ◌<◌, true, false, refl, sym, ◌∙◌, ap, arith}
use Rattle.table.specs.Calls.{step_rewrite}
use Rattle.table_state.specs.Lookups.{job_at}
use Rattle.table_reads.specs.Stepping.{finds_rewrite}
use Rattle.table_commits.proofs.UnchangedRefusals.{acts_shut}
use Rattle.table_jobs.proofs.StepEnds.{step_no_job, step_full, step_fine}
use Rattle.table_jobs.proofs.rewriting.step_rewrite.Goals as goal

pub returns-then-store-clause-acts : goal.returns-then-store-clause-acts
returns-then-store-clause-acts g c = acts_shut g.D.Disk.state c.args.store.now (step_rewrite c.args.job) refl c.if-store.true

pub returns-then-not-finds_rewrite-clause-acts : goal.returns-then-not-finds_rewrite-clause-acts
returns-then-not-finds_rewrite-clause-acts g c honest s stands =
    let none : finds_rewrite (job_at c.args.job c.args.store.now.jobs.items) ≡ false = ap (λ js. finds_rewrite (job_at c.args.job js)) (sym c.as_slice.ensures.value) ∙ sym c.finds_rewrite.ensures ∙ c.if-not-finds_rewrite.true in
    step_no_job g.D.Disk.state c.args.store.now s stands (sym stands.shows.closed ∙ c.if-store.false) c.args.job none

pub returns-then-store-ge-MOST_NUMBERS-clause-acts : goal.returns-then-store-ge-MOST_NUMBERS-clause-acts
returns-then-store-ge-MOST_NUMBERS-clause-acts g c honest s stands =
    let there : finds_rewrite (job_at c.args.job c.args.store.now.jobs.items) ≡ true = ap (λ js. finds_rewrite (job_at c.args.job js)) (sym c.as_slice.ensures.value) ∙ sym c.finds_rewrite.ensures ∙ c.if-not-finds_rewrite.false in
    let high : 9223372036854775808 ≤ s.next_group = let a = stands.shows.next_group in let b = c.if-store-ge-MOST_NUMBERS.true in omega (arith, a, b) in
    step_full g.D.Disk.state c.args.store.now s stands (sym stands.shows.closed ∙ c.if-store.false) c.args.job there high

pub returns-clause-acts : goal.returns-clause-acts
returns-clause-acts g c honest s stands =
    let old = c.args.store.now in
    let is_open = sym stands.shows.closed ∙ c.if-store.false in
    let there : finds_rewrite (job_at c.args.job old.jobs.items) ≡ true = ap (λ js. finds_rewrite (job_at c.args.job js)) (sym c.as_slice.ensures.value) ∙ sym c.finds_rewrite.ensures ∙ c.if-not-finds_rewrite.false in
    let low : s.next_group < 9223372036854775808 = let a = stands.shows.next_group in let b = c.if-store-ge-MOST_NUMBERS.false in omega (arith, a, b) in
    c.read_source.ensures.acts honest s stands is_open (step_fine g.D.Disk.state old s stands is_open c.args.job there low)

pub returns-clause-cause : goal.returns-clause-cause
returns-clause-cause g c honest s stands =
    let old = c.args.store.now in
    let is_open = sym stands.shows.closed ∙ c.if-store.false in
    let there : finds_rewrite (job_at c.args.job old.jobs.items) ≡ true = ap (λ js. finds_rewrite (job_at c.args.job js)) (sym c.as_slice.ensures.value) ∙ sym c.finds_rewrite.ensures ∙ c.if-not-finds_rewrite.false in
    let low : s.next_group < 9223372036854775808 = let a = stands.shows.next_group in let b = c.if-store-ge-MOST_NUMBERS.false in omega (arith, a, b) in
    c.read_source.ensures.cause honest s stands is_open (step_fine g.D.Disk.state old s stands is_open c.args.job there low)
