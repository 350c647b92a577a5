use Rattle.std.proofs.Common.{◌≡◌, ◌<◌, ◌≤◌, ℕ, true, false, refl, sym, ◌∙◌, ap, arith}
use Rattle.table.specs.Calls.{commit, done}
use Rattle.table.specs.Views.{answered}
use Rattle.vault.proofs.Chained.{refused}
use Rattle.table_jobs.specs.Staging.{finds_append, finds_nothing}
use Rattle.table_state.specs.Promises.{ActsFrom}
use Rattle.table_jobs.proofs.EmptyCommits.{empty_refused, empty_done}
use Rattle.table_state.specs.Lookups.{job_at}
use Rattle.table_commits.proofs.UnchangedRefusals.{acts_shut}
use Rattle.table_reads.proofs.SomethingEnds.{not_there, is_there, job_ended}
use Rattle.table_jobs.proofs.JobChecks.{commit_no_job, commit_full, commit_fine}
use Rattle.table_jobs.proofs.RewriteSources.{rewrite_there}
use Rattle.table_jobs.proofs.ending.commit.Goals as goal

pub returns-then-store-clause-acts : goal.returns-then-store-clause-acts
returns-then-store-clause-acts g c = acts_shut g.D.Disk.state c.args.store.now (commit c.args.job) refl c.if-store.true

pub returns-then-is_none-clause-acts : goal.returns-then-is_none-clause-acts
returns-then-is_none-clause-acts g c honest s stands =
    let old = c.args.store.now in
    let none = not_there (λ j. j.now) c.find_job.result (job_at c.args.job c.as_slice.result.now) c.is_none.result c.is_none.ensures c.if-is_none.true c.find_job.ensures in
    commit_no_job g.D.Disk.state old s stands (sym stands.shows.closed ∙ c.if-store.false) c.args.job (ap (job_at c.args.job) (sym c.as_slice.ensures.value) ∙ none)

pub returns-then-store-ge-MOST_NUMBERS-clause-acts : goal.returns-then-store-ge-MOST_NUMBERS-clause-acts
returns-then-store-ge-MOST_NUMBERS-clause-acts g c honest s stands =
    let old = c.args.store.now in
    let some = is_there (λ j. j.now) c.find_job.result (job_at c.args.job c.as_slice.result.now) c.is_none.result c.is_none.ensures c.if-is_none.false c.find_job.ensures in
    let high : 9223372036854775808 ≤ s.next_group = let a = stands.shows.next_group in let b = c.if-store-ge-MOST_NUMBERS.true in omega (arith, a, b) in
    commit_full g.D.Disk.state old s stands (sym stands.shows.closed ∙ c.if-store.false) c.args.job some.0 (ap (job_at c.args.job) (sym c.as_slice.ensures.value) ∙ some.1) high

pub returns-in_err-step-clause-acts : goal.returns-in_err-step-clause-acts
returns-in_err-step-clause-acts g c honest s stands =
    let old = c.args.store.now in
    let n = c.args.job in
    let low : s.next_group < 9223372036854775808 = let a = stands.shows.next_group in let b = c.if-store-ge-MOST_NUMBERS.false in omega (arith, a, b) in
    let nothing : finds_nothing (job_at n old.jobs.items) ≡ true = ap (λ js. finds_nothing (job_at n js)) (sym c.as_slice-2.ensures.value) ∙ sym c.finds_nothing.ensures ∙ c.if-finds_nothing.true in
    refused (λ r. ActsFrom g.D.Disk.state old (record old { snapshots = c.step.new.self }) (commit n) (answered {T = ℕ} (λ x. done x) r) s) c.from_residual.result _ c.from_residual.ensures.1
    (empty_refused g.D.Disk.state old s stands (sym stands.shows.closed ∙ c.if-store.false) n nothing low c.in_err-step.field-0.0 c.in_err-step.ensures.which c.step.new.self c.in_err-step.ensures.unchanged)

pub returns-then-finds_nothing-clause-acts : goal.returns-then-finds_nothing-clause-acts
returns-then-finds_nothing-clause-acts g c honest s stands =
    let old = c.args.store.now in
    let n = c.args.job in
    let low : s.next_group < 9223372036854775808 = let a = stands.shows.next_group in let b = c.if-store-ge-MOST_NUMBERS.false in omega (arith, a, b) in
    let nothing : finds_nothing (job_at n old.jobs.items) ≡ true = ap (λ js. finds_nothing (job_at n js)) (sym c.as_slice-2.ensures.value) ∙ sym c.finds_nothing.ensures ∙ c.if-finds_nothing.true in
    empty_done g.D.Disk.state old s stands (sym stands.shows.closed ∙ c.if-store.false) n nothing low c.step.new.self c.in_ok-step.ensures.done c.end_job.new.jobs c.end_job.ensures c.let_go.new.store
    (c.let_go.ensures.clears honest) c.let_go.ensures.keeps

pub returns-then-finds_append-clause-acts : goal.returns-then-finds_append-clause-acts
returns-then-finds_append-clause-acts g c honest s stands =
    let old = c.args.store.now in
    let n = c.args.job in
    let is_open = sym stands.shows.closed ∙ c.if-store.false in
    let low : s.next_group < 9223372036854775808 = let a = stands.shows.next_group in let b = c.if-store-ge-MOST_NUMBERS.false in omega (arith, a, b) in
    let there : finds_append (job_at n old.jobs.items) ≡ true = ap (λ js. finds_append (job_at n js)) (sym c.as_slice-3.ensures.value) ∙ sym c.finds_append.ensures ∙ c.if-finds_append.true in
    let something : finds_nothing (job_at n old.jobs.items) ≡ false = ap (λ js. finds_nothing (job_at n js)) (sym c.as_slice-2.ensures.value) ∙ sym c.finds_nothing.ensures ∙ c.if-finds_nothing.false in
    c.commit_append.ensures.acts honest s stands is_open (commit_fine g.D.Disk.state old s stands is_open n there low) there something

pub returns-then-finds_append-clause-cause : goal.returns-then-finds_append-clause-cause
returns-then-finds_append-clause-cause g c honest s stands =
    let old = c.args.store.now in
    let n = c.args.job in
    let is_open = sym stands.shows.closed ∙ c.if-store.false in
    let low : s.next_group < 9223372036854775808 = let a = stands.shows.next_group in let b = c.if-store-ge-MOST_NUMBERS.false in omega (arith, a, b) in
    let there : finds_append (job_at n old.jobs.items) ≡ true = ap (λ js. finds_append (job_at n js)) (sym c.as_slice-3.ensures.value) ∙ sym c.finds_append.ensures ∙ c.if-finds_append.true in
    let something : finds_nothing (job_at n old.jobs.items) ≡ false = ap (λ js. finds_nothing (job_at n js)) (sym c.as_slice-2.ensures.value) ∙ sym c.finds_nothing.ensures ∙ c.if-finds_nothing.false in
    c.commit_append.ensures.cause honest s stands is_open (commit_fine g.D.Disk.state old s stands is_open n there low) there something

pub returns-clause-acts : goal.returns-clause-acts
returns-clause-acts g c honest s stands =
    let old = c.args.store.now in
    let n = c.args.job in
    let is_open = sym stands.shows.closed ∙ c.if-store.false in
    let some = is_there (λ j. j.now) c.find_job.result (job_at n c.as_slice.result.now) c.is_none.result c.is_none.ensures c.if-is_none.false c.find_job.ensures in
    let found = ap (job_at n) (sym c.as_slice.ensures.value) ∙ some.1 in
    let low : s.next_group < 9223372036854775808 = let a = stands.shows.next_group in let b = c.if-store-ge-MOST_NUMBERS.false in omega (arith, a, b) in
    let other : finds_append (job_at n old.jobs.items) ≡ false = ap (λ js. finds_append (job_at n js)) (sym c.as_slice-3.ensures.value) ∙ sym c.finds_append.ensures ∙ c.if-finds_append.false in
    let something : finds_nothing (job_at n old.jobs.items) ≡ false = ap (λ js. finds_nothing (job_at n js)) (sym c.as_slice-2.ensures.value) ∙ sym c.finds_nothing.ensures ∙ c.if-finds_nothing.false in
    let t = rewrite_there some.0 (job_at n old.jobs.items) found other something in
    c.commit_rewrite.ensures.acts honest s t.0 stands is_open low (some.0, found, t.1) t.2

pub returns-clause-cause : goal.returns-clause-cause
returns-clause-cause g c honest s stands =
    let old = c.args.store.now in
    let n = c.args.job in
    let is_open = sym stands.shows.closed ∙ c.if-store.false in
    let some = is_there (λ j. j.now) c.find_job.result (job_at n c.as_slice.result.now) c.is_none.result c.is_none.ensures c.if-is_none.false c.find_job.ensures in
    let found = ap (job_at n) (sym c.as_slice.ensures.value) ∙ some.1 in
    let low : s.next_group < 9223372036854775808 = let a = stands.shows.next_group in let b = c.if-store-ge-MOST_NUMBERS.false in omega (arith, a, b) in
    let other : finds_append (job_at n old.jobs.items) ≡ false = ap (λ js. finds_append (job_at n js)) (sym c.as_slice-3.ensures.value) ∙ sym c.finds_append.ensures ∙ c.if-finds_append.false in
    let something : finds_nothing (job_at n old.jobs.items) ≡ false = ap (λ js. finds_nothing (job_at n js)) (sym c.as_slice-2.ensures.value) ∙ sym c.finds_nothing.ensures ∙ c.if-finds_nothing.false in
    let t = rewrite_there some.0 (job_at n old.jobs.items) found other something in
    c.commit_rewrite.ensures.cause honest s t.0 stands is_open low (some.0, found, t.1) t.2

pub returns-then-finds_nothing-clause-tidy : goal.returns-then-finds_nothing-clause-tidy
returns-then-finds_nothing-clause-tidy g c honest s stands keeps =
    let is_open = sym stands.shows.closed ∙ c.if-store.false in
    let shown = job_ended g.D.Disk.state c.args.store.now s stands is_open c.args.job c.step.new.self c.in_ok-step.ensures.done c.end_job.new.jobs c.end_job.ensures in
    c.let_go.ensures.tidy honest (shown.shown is_open).tracked keeps

pub returns-then-finds_append-clause-tidy : goal.returns-then-finds_append-clause-tidy
returns-then-finds_append-clause-tidy g c honest s stands keeps =
    let old = c.args.store.now in
    let n = c.args.job in
    let is_open = sym stands.shows.closed ∙ c.if-store.false in
    let low : s.next_group < 9223372036854775808 = let a = stands.shows.next_group in let b = c.if-store-ge-MOST_NUMBERS.false in omega (arith, a, b) in
    let there : finds_append (job_at n old.jobs.items) ≡ true = ap (λ js. finds_append (job_at n js)) (sym c.as_slice-3.ensures.value) ∙ sym c.finds_append.ensures ∙ c.if-finds_append.true in
    c.commit_append.ensures.tidy honest s stands is_open (commit_fine g.D.Disk.state old s stands is_open n there low) there keeps

pub returns-clause-tidy : goal.returns-clause-tidy
returns-clause-tidy g c honest s stands keeps =
    let old = c.args.store.now in
    let n = c.args.job in
    let is_open = sym stands.shows.closed ∙ c.if-store.false in
    let some = is_there (λ j. j.now) c.find_job.result (job_at n c.as_slice.result.now) c.is_none.result c.is_none.ensures c.if-is_none.false c.find_job.ensures in
    let found = ap (job_at n) (sym c.as_slice.ensures.value) ∙ some.1 in
    let low : s.next_group < 9223372036854775808 = let a = stands.shows.next_group in let b = c.if-store-ge-MOST_NUMBERS.false in omega (arith, a, b) in
    let other : finds_append (job_at n old.jobs.items) ≡ false = ap (λ js. finds_append (job_at n js)) (sym c.as_slice-3.ensures.value) ∙ sym c.finds_append.ensures ∙ c.if-finds_append.false in
    let something : finds_nothing (job_at n old.jobs.items) ≡ false = ap (λ js. finds_nothing (job_at n js)) (sym c.as_slice-2.ensures.value) ∙ sym c.finds_nothing.ensures ∙ c.if-finds_nothing.false in
    let t = rewrite_there some.0 (job_at n old.jobs.items) found other something in
    c.commit_rewrite.ensures.tidy honest s t.0 stands is_open low (some.0, found, t.1) t.2 keeps
