use Rattle.std.proofs.Common.{◌≡◌, ℕ, List, true, false, Err, ap, sym, ◌∙◌}
use Rattle.std.specs.Prelude.{Result}
use Rattle.std.specs.List.{list_all}
use Rattle.bits.specs.declared.refusal.Refusal.{Refusal}
use Rattle.schema.specs.Cutting.{is_among}
use Rattle.vault.specs.Calls.{HasFailed}
use Rattle.vault.proofs.Chained.{refused}
use Rattle.planning.specs.declared.change.Sources.{Sources}
use Rattle.planning.specs.Told.{numbers_of}
use Rattle.planning.specs.Runs.{sources_view}
use Rattle.manifest.specs.Groups.{Group as FileGroup, root_of}
use Rattle.table.specs.Calls.{commit, done}
use Rattle.table.specs.Refusing.{is_failure}
use Rattle.table.specs.Views.{answered}
use Rattle.table_state.specs.declared.jobs.OpenJob.{OpenJob}
use Rattle.table_state.specs.Lookups.{job_at}
use Rattle.table_state.specs.Promises.{ActsFrom}
use Rattle.table_jobs.specs.Rewritten.{runs_at, numbers_of_runs}
use Rattle.table_commits.proofs.GroupRemovals.{memory_so}
use Rattle.table_jobs.proofs.RewriteSources.{fault_is, runs_told}
use Rattle.table_jobs.proofs.RewriteEnds.{poor_first}
use Rattle.table_jobs.proofs.rewritten.commit_rewrite.Goals as goal

pub returns-in_err-runs-clause-acts : goal.returns-in_err-runs-clause-acts
returns-in_err-runs-clause-acts g c honest s r stands is_open low at some =
    let old = c.args.store.now in
    refused (λ (o : Result ℕ Refusal). ActsFrom g.D.Disk.state old old (commit c.args.job) (answered {T = ℕ} (λ x. done x) o) s) c.from_residual.result _ c.from_residual.ensures.1
    (memory_so c.in_err-runs.field-0.0 c.in_err-runs.ensures.which (λ e. ActsFrom g.D.Disk.state old old (commit c.args.job) (answered {T = ℕ} (λ x. done x) (Err e)) s) (poor_first g.D.Disk.state old s stands is_open c.args.job))

pub returns-in_err-runs-clause-cause : goal.returns-in_err-runs-clause-cause
returns-in_err-runs-clause-cause g c honest s r stands is_open low at some =
    let old = c.args.store.now in
    refused (λ (o : Result ℕ Refusal). is_failure (answered {T = ℕ} (λ x. done x) o) ≡ true → HasFailed (g.D.Disk.state old.vault.disk) (g.D.Disk.state old.vault.disk)) c.from_residual.result _ c.from_residual.ensures.1
    (memory_so c.in_err-runs.field-0.0 c.in_err-runs.ensures.which (λ e. is_failure (answered {T = ℕ} (λ x. done x) (Err e)) ≡ true → HasFailed (g.D.Disk.state old.vault.disk) (g.D.Disk.state old.vault.disk)) (λ h. absurd (cc)))

pub returns-in_err-numbers-clause-acts : goal.returns-in_err-numbers-clause-acts
returns-in_err-numbers-clause-acts g c honest s r stands is_open low at some =
    let old = c.args.store.now in
    refused (λ (o : Result ℕ Refusal). ActsFrom g.D.Disk.state old old (commit c.args.job) (answered {T = ℕ} (λ x. done x) o) s) c.from_residual-in_err-numbers.result _ c.from_residual-in_err-numbers.ensures.1
    (memory_so c.in_err-numbers.field-0.0 c.in_err-numbers.ensures.which (λ e. ActsFrom g.D.Disk.state old old (commit c.args.job) (answered {T = ℕ} (λ x. done x) (Err e)) s) (poor_first g.D.Disk.state old s stands is_open c.args.job))

pub returns-in_err-numbers-clause-cause : goal.returns-in_err-numbers-clause-cause
returns-in_err-numbers-clause-cause g c honest s r stands is_open low at some =
    let old = c.args.store.now in
    refused (λ (o : Result ℕ Refusal). is_failure (answered {T = ℕ} (λ x. done x) o) ≡ true → HasFailed (g.D.Disk.state old.vault.disk) (g.D.Disk.state old.vault.disk)) c.from_residual-in_err-numbers.result _ c.from_residual-in_err-numbers.ensures.1
    (memory_so c.in_err-numbers.field-0.0 c.in_err-numbers.ensures.which (λ e. is_failure (answered {T = ℕ} (λ x. done x) (Err e)) ≡ true → HasFailed (g.D.Disk.state old.vault.disk) (g.D.Disk.state old.vault.disk)) (λ h. absurd (cc)))

pub returns-in_err-has_all-clause-acts : goal.returns-in_err-has_all-clause-acts
returns-in_err-has_all-clause-acts g c honest s r stands is_open low at some =
    let old = c.args.store.now in
    refused (λ (o : Result ℕ Refusal). ActsFrom g.D.Disk.state old old (commit c.args.job) (answered {T = ℕ} (λ x. done x) o) s) c.from_residual-in_err-has_all.result _ c.from_residual-in_err-has_all.ensures.1
    (memory_so c.in_err-has_all.field-0.0 c.in_err-has_all.ensures.which (λ e. ActsFrom g.D.Disk.state old old (commit c.args.job) (answered {T = ℕ} (λ x. done x) (Err e)) s) (poor_first g.D.Disk.state old s stands is_open c.args.job))

pub returns-in_err-has_all-clause-cause : goal.returns-in_err-has_all-clause-cause
returns-in_err-has_all-clause-cause g c honest s r stands is_open low at some =
    let old = c.args.store.now in
    refused (λ (o : Result ℕ Refusal). is_failure (answered {T = ℕ} (λ x. done x) o) ≡ true → HasFailed (g.D.Disk.state old.vault.disk) (g.D.Disk.state old.vault.disk)) c.from_residual-in_err-has_all.result _ c.from_residual-in_err-has_all.ensures.1
    (memory_so c.in_err-has_all.field-0.0 c.in_err-has_all.ensures.which (λ e. is_failure (answered {T = ℕ} (λ x. done x) (Err e)) ≡ true → HasFailed (g.D.Disk.state old.vault.disk) (g.D.Disk.state old.vault.disk)) (λ h. absurd (cc)))

pub returns-then-not-branch-clause-acts : goal.returns-then-not-branch-clause-acts
returns-then-not-branch-clause-acts g c honest s r stands is_open low at some =
    let old = c.args.store.now in
    let n = c.args.job in
    let runs = sources_view c.in_ok-runs.runs.items in
    let told : runs ≡ sources_view r.runs.items = c.in_ok-runs.ensures.told ∙ ap (λ (js : List OpenJob). runs_at (job_at n js)) c.as_slice.ensures.value ∙ runs_told n old.jobs.items r at in
    let numbers = c.in_ok-numbers.ensures.told ∙ ap (λ (xs : List Sources). numbers_of_runs (sources_view xs)) c.as_slice-2.ensures.value ∙ ap numbers_of_runs told in
    let all = ap (λ (ns : List ℕ). list_all (is_among (numbers_of (root_of old.manifest).groups)) ns) (sym c.as_slice-3.ensures.value) ∙ ap (λ (gs : List FileGroup). list_all (is_among (numbers_of gs)) c.as_slice-3.result.now) (sym c.groups.ensures.are) ∙ sym c.in_ok-has_all.ensures.all in
    let gone = fault_is g.D.Disk.state old s stands is_open n r at low false c.in_ok-numbers.numbers.items numbers (all ∙ c.if-not-branch.true) in
    c.end_stale.ensures.acts honest s r stands is_open at gone

pub returns-clause-acts : goal.returns-clause-acts
returns-clause-acts g c honest s r stands is_open low at some =
    let old = c.args.store.now in
    let n = c.args.job in
    let runs = sources_view c.in_ok-runs.runs.items in
    let told : runs ≡ sources_view r.runs.items = c.in_ok-runs.ensures.told ∙ ap (λ (js : List OpenJob). runs_at (job_at n js)) c.as_slice.ensures.value ∙ runs_told n old.jobs.items r at in
    let numbers = c.in_ok-numbers.ensures.told ∙ ap (λ (xs : List Sources). numbers_of_runs (sources_view xs)) c.as_slice-2.ensures.value ∙ ap numbers_of_runs told in
    let all = ap (λ (ns : List ℕ). list_all (is_among (numbers_of (root_of old.manifest).groups)) ns) (sym c.as_slice-3.ensures.value) ∙ ap (λ (gs : List FileGroup). list_all (is_among (numbers_of gs)) c.as_slice-3.result.now) (sym c.groups.ensures.are) ∙ sym c.in_ok-has_all.ensures.all in
    let fine = fault_is g.D.Disk.state old s stands is_open n r at low true c.in_ok-numbers.numbers.items numbers (all ∙ c.if-not-branch.false) in
    c.commit_runs.ensures.acts honest s r stands is_open at some (ap (λ (xs : List Sources). sources_view xs) c.as_slice-4.ensures.value ∙ told) fine

pub returns-then-not-branch-clause-cause : goal.returns-then-not-branch-clause-cause
returns-then-not-branch-clause-cause g c honest s r stands is_open low at some h = let e : true ≡ false = sym h ∙ c.end_stale.ensures.cause in absurd (cc)

pub returns-clause-cause : goal.returns-clause-cause
returns-clause-cause g c honest s r stands is_open low at some =
    let old = c.args.store.now in
    let n = c.args.job in
    let runs = sources_view c.in_ok-runs.runs.items in
    let told : runs ≡ sources_view r.runs.items = c.in_ok-runs.ensures.told ∙ ap (λ (js : List OpenJob). runs_at (job_at n js)) c.as_slice.ensures.value ∙ runs_told n old.jobs.items r at in
    let numbers = c.in_ok-numbers.ensures.told ∙ ap (λ (xs : List Sources). numbers_of_runs (sources_view xs)) c.as_slice-2.ensures.value ∙ ap numbers_of_runs told in
    let all = ap (λ (ns : List ℕ). list_all (is_among (numbers_of (root_of old.manifest).groups)) ns) (sym c.as_slice-3.ensures.value) ∙ ap (λ (gs : List FileGroup). list_all (is_among (numbers_of gs)) c.as_slice-3.result.now) (sym c.groups.ensures.are) ∙ sym c.in_ok-has_all.ensures.all in
    let fine = fault_is g.D.Disk.state old s stands is_open n r at low true c.in_ok-numbers.numbers.items numbers (all ∙ c.if-not-branch.false) in
    c.commit_runs.ensures.cause honest s r stands is_open at some (ap (λ (xs : List Sources). sources_view xs) c.as_slice-4.ensures.value ∙ told) fine

pub returns-clause-tidy : goal.returns-clause-tidy
returns-clause-tidy g c honest s r stands is_open low at some keeps =
    let old = c.args.store.now in
    let n = c.args.job in
    let runs = sources_view c.in_ok-runs.runs.items in
    let told : runs ≡ sources_view r.runs.items = c.in_ok-runs.ensures.told ∙ ap (λ (js : List OpenJob). runs_at (job_at n js)) c.as_slice.ensures.value ∙ runs_told n old.jobs.items r at in
    let numbers = c.in_ok-numbers.ensures.told ∙ ap (λ (xs : List Sources). numbers_of_runs (sources_view xs)) c.as_slice-2.ensures.value ∙ ap numbers_of_runs told in
    let all = ap (λ (ns : List ℕ). list_all (is_among (numbers_of (root_of old.manifest).groups)) ns) (sym c.as_slice-3.ensures.value) ∙ ap (λ (gs : List FileGroup). list_all (is_among (numbers_of gs)) c.as_slice-3.result.now) (sym c.groups.ensures.are) ∙ sym c.in_ok-has_all.ensures.all in
    let fine = fault_is g.D.Disk.state old s stands is_open n r at low true c.in_ok-numbers.numbers.items numbers (all ∙ c.if-not-branch.false) in
    c.commit_runs.ensures.tidy honest s r stands is_open at some (ap (λ (xs : List Sources). sources_view xs) c.as_slice-4.ensures.value ∙ told) fine keeps
