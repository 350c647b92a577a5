use Rattle.std.proofs.Common.{◌≡◌, ℕ, true, refl, sym, ◌∙◌, ap, Err}
use Rattle.bits.specs.declared.refusal.Refusal.{Refusal}
use Rattle.vault.proofs.Chained.{refused}
use Rattle.vault.specs.Calls.{HasFailed}
use Rattle.schema.specs.Elements.{elements_view}
use Rattle.manifest.specs.Groups.{Root, root_of}
use Rattle.table.specs.Calls.{add_column, done}
use Rattle.table.specs.State.{widened_jobs}
use Rattle.table.specs.Refusing.{is_failure}
use Rattle.table.specs.Views.{answered}
use Rattle.table_state.specs.Promises.{ActsFrom}
use Rattle.table_commits.proofs.GroupRemovals.{failure_of}
use Rattle.table_commits.proofs.UnchangedRefusals.{acts_shut}
use Rattle.table_changes.proofs.ColumnsAdded.{no_failure, refused_elements, planned, grown, too_much, done_so, refused_so}
use Rattle.table_changes.proofs.adding_column.add_column.Goals as goal

pub returns-then-store-clause-acts : goal.returns-then-store-clause-acts
returns-then-store-clause-acts g c = acts_shut g.D.Disk.state c.args.store.now (add_column (elements_view c.args.elements.now)) refl c.if-store.true

pub returns-in_err-manifest-clause-acts : goal.returns-in_err-manifest-clause-acts
returns-in_err-manifest-clause-acts g c honest s stands =
    let es = elements_view c.args.elements.now in
    refused (λ r. ActsFrom g.D.Disk.state c.args.store.now c.args.store.now (add_column es) (answered {T = ℕ} (λ x. done x) r) s) c.from_residual.result _ c.from_residual.ensures.1
    (refused_elements g.D.Disk.state c.args.store.now s stands (sym stands.shows.closed ∙ c.if-store.false) es c.in_err-manifest.field-0.0 c.in_err-manifest.ensures.which)

pub returns-in_err-manifest-clause-cause : goal.returns-in_err-manifest-clause-cause
returns-in_err-manifest-clause-cause g c honest s stands =
    let old = c.args.store.now in
    let failed = c.in_err-manifest in
    refused (λ r. is_failure (answered {T = ℕ} (λ x. done x) r) ≡ true → HasFailed (g.D.Disk.state old.vault.disk) (g.D.Disk.state old.vault.disk)) c.from_residual.result _ c.from_residual.ensures.1
    (λ h. absurd (no_failure _ _ failed.field-0.0 failed.ensures.which h))

pub returns-in_err-commit_to-clause-acts : goal.returns-in_err-commit_to-clause-acts
returns-in_err-commit_to-clause-acts g c honest s stands =
    let old = c.args.store.now in
    let es = elements_view c.args.elements.now in
    let is_open = sym stands.shows.closed ∙ c.if-store.false in
    let root = root_of c.in_ok-manifest.manifest in
    let made = c.in_ok-manifest.ensures.made in
    let plan = planned g.D.Disk.state old s stands is_open es root made in
    let t = grown g.D.Disk.state old s stands is_open es root made in
    let failed = c.in_err-commit_to in
    refused (λ r. ActsFrom g.D.Disk.state old c.commit_to.new.store (add_column es) (answered {T = ℕ} (λ x. done x) r) s) c.from_residual-in_err-commit_to.result _ c.from_residual-in_err-commit_to.ensures.1
    (refused_so g.D.Disk.state old s stands is_open es root made c.commit_to.new.store failed.field-0.0 (failed.ensures.which s t (widened_jobs s.jobs) plan)
    (λ is. too_much g.D.Disk.state old s stands is_open es root made (failed.ensures.limit (ap (λ (e : Refusal). Err e) is) s t (widened_jobs s.jobs) plan))
    (failed.ensures.turns honest s t (widened_jobs s.jobs) stands.shows is_open plan))

pub returns-in_err-commit_to-clause-cause : goal.returns-in_err-commit_to-clause-cause
returns-in_err-commit_to-clause-cause g c honest s stands =
    let old = c.args.store.now in
    let es = elements_view c.args.elements.now in
    let is_open = sym stands.shows.closed ∙ c.if-store.false in
    let root = root_of c.in_ok-manifest.manifest in
    let made = c.in_ok-manifest.ensures.made in
    let plan = planned g.D.Disk.state old s stands is_open es root made in
    let t = grown g.D.Disk.state old s stands is_open es root made in
    let failed = c.in_err-commit_to in
    refused (λ r. is_failure (answered {T = ℕ} (λ x. done x) r) ≡ true → HasFailed (g.D.Disk.state old.vault.disk) (g.D.Disk.state c.commit_to.new.store.vault.disk)) c.from_residual-in_err-commit_to.result _ c.from_residual-in_err-commit_to.ensures.1
    (λ h. (failed.ensures.turns honest s t (widened_jobs s.jobs) stands.shows is_open plan).cause (failure_of failed.field-0.0 h))

pub returns-clause-acts : goal.returns-clause-acts
returns-clause-acts g c honest s stands =
    let old = c.args.store.now in
    let es = elements_view c.args.elements.now in
    let is_open = sym stands.shows.closed ∙ c.if-store.false in
    let root = root_of c.in_ok-manifest.manifest in
    let made = c.in_ok-manifest.ensures.made in
    let plan = planned g.D.Disk.state old s stands is_open es root made in
    let t = grown g.D.Disk.state old s stands is_open es root made in
    done_so g.D.Disk.state old s stands is_open es root made c.commit_to.new.store (c.in_ok-commit_to.ensures.turns honest s t (widened_jobs s.jobs) stands.shows is_open plan)

pub returns-clause-tidy : goal.returns-clause-tidy
returns-clause-tidy g c honest s stands keeps = c.in_ok-commit_to.ensures.tidy honest s stands.shows (sym stands.shows.closed ∙ c.if-store.false) (ap (λ (r : Root). r.keys) c.in_ok-manifest.ensures.made.is) keeps
