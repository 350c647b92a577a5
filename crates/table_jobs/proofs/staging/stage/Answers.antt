use Rattle.std.proofs.Common.{◌≡◌, ◌≤◌, ◌<◌, true, false, refl, sym, ◌∙◌, ap, arith}
use Rattle.schema.specs.Views.{rows_view}
use Rattle.vault.proofs.Chained.{refused}
use Rattle.table.specs.Calls.{stage, accepted}
use Rattle.table.specs.Views.{answered}
use Rattle.table_state.specs.Lookups.{job_at}
use Rattle.table_jobs.specs.Staging.{finds_append}
use Rattle.table_state.specs.Promises.{ActsFrom}
use Rattle.table_commits.proofs.UnchangedRefusals.{acts_shut}
use Rattle.table_jobs.proofs.JobChecks.{columns, stage_no_job, stage_full, stage_row_fault, stage_fine}
use Rattle.table_jobs.proofs.staging.stage.Goals as goal

pub returns-then-store-clause-acts : goal.returns-then-store-clause-acts
returns-then-store-clause-acts g c = acts_shut g.D.Disk.state c.args.store.now (stage c.args.job (rows_view c.args.rows.now)) refl c.if-store.true

pub returns-then-not-finds_append-clause-acts : goal.returns-then-not-finds_append-clause-acts
returns-then-not-finds_append-clause-acts g c honest s stands =
    let none : finds_append (job_at c.args.job c.args.store.now.jobs.items) ≡ false = ap (λ js. finds_append (job_at c.args.job js)) (sym c.as_slice.ensures.value) ∙ sym c.finds_append.ensures ∙ c.if-not-finds_append.true in
    stage_no_job g.D.Disk.state c.args.store.now s stands (sym stands.shows.closed ∙ c.if-store.false) c.args.job (rows_view c.args.rows.now) none

pub returns-then-store-ge-MOST_NUMBERS-clause-acts : goal.returns-then-store-ge-MOST_NUMBERS-clause-acts
returns-then-store-ge-MOST_NUMBERS-clause-acts g c honest s stands =
    let there : finds_append (job_at c.args.job c.args.store.now.jobs.items) ≡ true = ap (λ js. finds_append (job_at c.args.job js)) (sym c.as_slice.ensures.value) ∙ sym c.finds_append.ensures ∙ c.if-not-finds_append.false in
    let high : 9223372036854775808 ≤ s.next_group = let a = stands.shows.next_group in let b = c.if-store-ge-MOST_NUMBERS.true in omega (arith, a, b) in
    stage_full g.D.Disk.state c.args.store.now s stands (sym stands.shows.closed ∙ c.if-store.false) c.args.job (rows_view c.args.rows.now) there high

pub returns-in_err-check_rows-clause-acts : goal.returns-in_err-check_rows-clause-acts
returns-in_err-check_rows-clause-acts g c honest s stands =
    let old = c.args.store.now in
    let given = rows_view c.args.rows.now in
    let is_open = sym stands.shows.closed ∙ c.if-store.false in
    let there : finds_append (job_at c.args.job old.jobs.items) ≡ true = ap (λ js. finds_append (job_at c.args.job js)) (sym c.as_slice.ensures.value) ∙ sym c.finds_append.ensures ∙ c.if-not-finds_append.false in
    let low : s.next_group < 9223372036854775808 = let a = stands.shows.next_group in let b = c.if-store-ge-MOST_NUMBERS.false in omega (arith, a, b) in
    let fault = c.in_err-check_rows.ensures.fault s.table (sym stands.shows.schema) (sym stands.shows.keys) (columns g.D.Disk.state old s stands is_open c.args.job given) in
    refused (λ r. ActsFrom g.D.Disk.state old old (stage c.args.job given) (answered {T = Unit {0}} (λ x. accepted) r) s) c.from_residual.result _ c.from_residual.ensures.1
    (stage_row_fault g.D.Disk.state old s stands is_open c.args.job given there low c.in_err-check_rows.field-0.0 c.in_err-check_rows.ensures.which fault)

pub returns-clause-acts : goal.returns-clause-acts
returns-clause-acts g c honest s stands =
    let old = c.args.store.now in
    let given = rows_view c.args.rows.now in
    let is_open = sym stands.shows.closed ∙ c.if-store.false in
    let there : finds_append (job_at c.args.job old.jobs.items) ≡ true = ap (λ js. finds_append (job_at c.args.job js)) (sym c.as_slice.ensures.value) ∙ sym c.finds_append.ensures ∙ c.if-not-finds_append.false in
    let low : s.next_group < 9223372036854775808 = let a = stands.shows.next_group in let b = c.if-store-ge-MOST_NUMBERS.false in omega (arith, a, b) in
    let fault = c.in_ok-check_rows.ensures.fault s.table (sym stands.shows.schema) (sym stands.shows.keys) (columns g.D.Disk.state old s stands is_open c.args.job given) in
    c.stage_rows.ensures.acts honest s stands is_open (stage_fine g.D.Disk.state old s stands is_open c.args.job given there low fault)

pub returns-clause-cause : goal.returns-clause-cause
returns-clause-cause g c honest s stands =
    let old = c.args.store.now in
    let given = rows_view c.args.rows.now in
    let is_open = sym stands.shows.closed ∙ c.if-store.false in
    let there : finds_append (job_at c.args.job old.jobs.items) ≡ true = ap (λ js. finds_append (job_at c.args.job js)) (sym c.as_slice.ensures.value) ∙ sym c.finds_append.ensures ∙ c.if-not-finds_append.false in
    let low : s.next_group < 9223372036854775808 = let a = stands.shows.next_group in let b = c.if-store-ge-MOST_NUMBERS.false in omega (arith, a, b) in
    let fault = c.in_ok-check_rows.ensures.fault s.table (sym stands.shows.schema) (sym stands.shows.keys) (columns g.D.Disk.state old s stands is_open c.args.job given) in
    c.stage_rows.ensures.cause honest s stands is_open (stage_fine g.D.Disk.state old s stands is_open c.args.job given there low fault)
