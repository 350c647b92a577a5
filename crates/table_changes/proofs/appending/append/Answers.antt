use Rattle.std.proofs.Common.{◌≡◌, ◌≤◌, ◌<◌, ℕ, true, refl, sym, ap, subst, ◌∙◌, arith}
use Rattle.bits.specs.declared.refusal.Refusal.{Refusal}
use Rattle.schema.specs.Shape.{Fields}
use Rattle.schema.specs.Fits.{RowsFit}
use Rattle.schema.specs.Views.{rows_view}
use Rattle.manifest.specs.Groups.{Root}
use Rattle.vault.specs.Calls.{HasFailed}
use Rattle.vault.proofs.Chained.{refused}
use Rattle.table.specs.Calls.{append, done, refused as refused_answer}
use Rattle.table.specs.Refusing.{is_failure}
use Rattle.table.specs.Views.{answered}
use Rattle.table_commits.specs.Gathering.{AreGatheredFor}
use Rattle.table_state.specs.Promises.{ActsFrom}
use Rattle.table_commits.proofs.UnchangedRefusals.{acts_shut}
use Rattle.table_changes.proofs.AppendChecks.{columns, is_full, has_row_fault, out_of_memory}
use Rattle.table_changes.proofs.GatheredChecks.{fit_without_fault}
use Rattle.table_changes.proofs.RowsGathered.{shape_calm, shape_sure}
use Rattle.table_commits.proofs.RowsGathered.{is_memory}
use Rattle.table_changes.proofs.NotInDoubt.{passed_shut}
use Rattle.table_changes.proofs.appending.append.Goals as goal

pub returns-then-store-clause-acts : goal.returns-then-store-clause-acts
returns-then-store-clause-acts g c = acts_shut g.D.Disk.state c.args.store.now (append (rows_view c.args.rows.now)) refl c.if-store.true

pub returns-then-store-ge-MOST_NUMBERS-clause-acts : goal.returns-then-store-ge-MOST_NUMBERS-clause-acts
returns-then-store-ge-MOST_NUMBERS-clause-acts g c honest s stands =
    let high : 9223372036854775808 ≤ s.next_group = let a = stands.shows.next_group in let b = c.if-store-ge-MOST_NUMBERS.true in omega (arith, a, b) in
    is_full g.D.Disk.state c.args.store.now s stands (sym stands.shows.closed ∙ c.if-store.false) (rows_view c.args.rows.now) high

pub returns-in_err-check_rows-clause-acts : goal.returns-in_err-check_rows-clause-acts
returns-in_err-check_rows-clause-acts g c honest s stands =
    let old = c.args.store.now in
    let given = rows_view c.args.rows.now in
    let is_open = sym stands.shows.closed ∙ c.if-store.false in
    let low : s.next_group < 9223372036854775808 = let a = stands.shows.next_group in let b = c.if-store-ge-MOST_NUMBERS.false in omega (arith, a, b) in
    let fault = c.in_err-check_rows.ensures.fault s.table (sym stands.shows.schema) (sym stands.shows.keys) (columns g.D.Disk.state old s stands is_open given) in
    refused (λ r. ActsFrom g.D.Disk.state old old (append given) (answered {T = ℕ} (λ x. done x) r) s) c.from_residual.result _ c.from_residual.ensures.1
    (has_row_fault g.D.Disk.state old s stands is_open given low c.in_err-check_rows.field-0.0 c.in_err-check_rows.ensures.which fault)

pub returns-in_err-table-clause-acts : goal.returns-in_err-table-clause-acts
returns-in_err-table-clause-acts g c honest s stands =
    let old = c.args.store.now in
    let given = rows_view c.args.rows.now in
    let memory = is_memory c.in_err-table.field-0.0 c.in_err-table.ensures.which in
    refused (λ r. ActsFrom g.D.Disk.state old old (append given) (answered {T = ℕ} (λ x. done x) r) s) c.from_residual-in_err-table.result _ c.from_residual-in_err-table.ensures.1
    (subst (λ (e : Refusal). ActsFrom g.D.Disk.state old old (append given) (refused_answer e) s) (sym memory) (out_of_memory g.D.Disk.state old s stands (sym stands.shows.closed ∙ c.if-store.false) given))

pub returns-in_err-gathered-clause-acts : goal.returns-in_err-gathered-clause-acts
returns-in_err-gathered-clause-acts g c honest s stands =
    let old = c.args.store.now in
    let given = rows_view c.args.rows.now in
    let is_open = sym stands.shows.closed ∙ c.if-store.false in
    let fault = c.in_ok-check_rows.ensures.fault s.table (sym stands.shows.schema) (sym stands.shows.keys) (columns g.D.Disk.state old s stands is_open given) in
    let fit = subst (λ (fs : Fields). RowsFit fs given) (sym (ap (λ (r : Root). r.schema) c.in_ok-table.ensures.same ∙ stands.shows.schema)) (fit_without_fault s.table given fault) in
    let memory = is_memory c.in_err-gathered.field-0.0 (c.in_err-gathered.ensures.only fit) in
    refused (λ r. ActsFrom g.D.Disk.state old old (append given) (answered {T = ℕ} (λ x. done x) r) s) c.from_residual-in_err-gathered.result _ c.from_residual-in_err-gathered.ensures.1
    (subst (λ (e : Refusal). ActsFrom g.D.Disk.state old old (append given) (refused_answer e) s) (sym memory) (out_of_memory g.D.Disk.state old s stands is_open given))

pub returns-in_err-gathered-clause-cause : goal.returns-in_err-gathered-clause-cause
returns-in_err-gathered-clause-cause g c honest s stands =
    let disk = g.D.Disk.state c.args.store.now.vault.disk in
    refused (λ r. is_failure (answered {T = ℕ} (λ x. done x) r) ≡ true → HasFailed disk disk) c.from_residual-in_err-gathered.result _ c.from_residual-in_err-gathered.ensures.1
    (λ tells. absurd (shape_calm c.in_err-gathered.field-0.0 c.in_err-gathered.ensures.which tells))

pub returns-in_err-gathered-clause-doubt : goal.returns-in_err-gathered-clause-doubt
returns-in_err-gathered-clause-doubt g c =
    passed_shut c.args.store.now c.from_residual-in_err-gathered.result _ c.from_residual-in_err-gathered.ensures.1 (shape_sure c.in_err-gathered.field-0.0 c.in_err-gathered.ensures.which)

pub returns-clause-acts : goal.returns-clause-acts
returns-clause-acts g c honest s stands =
    let for_table = subst (λ (r : Root). AreGatheredFor r c.args.store.now.options c.in_ok-gathered.gathered) c.in_ok-table.ensures.same c.in_ok-gathered.ensures.table in
    c.append_gathered.ensures.acts (rows_view c.args.rows.now) c.in_ok-gathered.ensures.held for_table honest s stands

pub returns-clause-cause : goal.returns-clause-cause
returns-clause-cause g c honest s stands failed =
    let for_table = subst (λ (r : Root). AreGatheredFor r c.args.store.now.options c.in_ok-gathered.gathered) c.in_ok-table.ensures.same c.in_ok-gathered.ensures.table in
    c.append_gathered.ensures.cause (rows_view c.args.rows.now) c.in_ok-gathered.ensures.held for_table honest s stands failed

pub returns-clause-tidy : goal.returns-clause-tidy
returns-clause-tidy g c honest s stands keeps =
    let for_table = subst (λ (r : Root). AreGatheredFor r c.args.store.now.options c.in_ok-gathered.gathered) c.in_ok-table.ensures.same c.in_ok-gathered.ensures.table in
    c.append_gathered.ensures.tidy (rows_view c.args.rows.now) c.in_ok-gathered.ensures.held for_table honest s stands keeps
