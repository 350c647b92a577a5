use Rattle.std.proofs.Common.{◌≡◌, ℕ, true, List, [], Result, Ok, Err, refl, sym, ◌∙◌, ap, subst}
use Rattle.bits.specs.declared.refusal.Refusal.{Refusal}
use Rattle.bits.specs.Refusals.{HasCause}
use Rattle.schema.specs.Stripe.{leaves_of}
use Rattle.schema.specs.Shape.{Fields}
use Rattle.filter.specs.Terms.{terms_view, tests_of}
use Rattle.manifest.specs.Groups.{Group as FileGroup, root_of}
use Rattle.vault.proofs.Chained.{refused}
use Rattle.table.specs.Calls.{count, counted}
use Rattle.table.specs.Views.{answered}
use Rattle.table.specs.Refusing.{is_failure}
use Rattle.vault.specs.Calls.{HasFailed}
use Rattle.table_reads.proofs.TermFaults.{no_failure}
use Rattle.table_commits.specs.Dropping.{rows_in}
use Rattle.table_state.specs.Promises.{ActsFrom}
use Rattle.table_commits.proofs.UnchangedRefusals.{acts_shut}
use Rattle.table_reads.proofs.CountedRows.{counts_all, count_poor, count_refused, no_terms}
use Rattle.filter.specs.Test.{Test, tests_in}
use Rattle.table_commits.proofs.GroupRemovals.{memory_so}
use Rattle.table_reads.specs.Counting.{AreSpared}
use Rattle.table_reads.proofs.WholeRows.{no_tests}
use Rattle.table_reads.proofs.CountingGroups.{table_held, counts_so, count_stopped, spared_all}
use Rattle.table_reads.proofs.FilesLeftAlone.{same, only_read}
use Rattle.table_reads.proofs.counting.count.Goals as goal

pub returns-then-store-clause-acts : goal.returns-then-store-clause-acts
returns-then-store-clause-acts g c = acts_shut g.D.Disk.state c.args.store.now (count (terms_view c.args.terms.now)) refl c.if-store.true

pub returns-in_err-all-clause-acts : goal.returns-in_err-all-clause-acts
returns-in_err-all-clause-acts g c honest s stands =
    let old = c.args.store.now in
    refused (λ (r : Result ℕ Refusal). ActsFrom g.D.Disk.state old old (count (terms_view c.args.terms.now)) (answered counted r) s) c.from_residual.result c.in_err-all.field-0.0 c.from_residual.ensures.1
    (memory_so c.in_err-all.field-0.0 c.in_err-all.ensures.which (λ e. ActsFrom g.D.Disk.state old old (count (terms_view c.args.terms.now)) (answered {T = ℕ} counted (Err e)) s) (count_poor g.D.Disk.state old c.if-store.false s stands (terms_view c.args.terms.now)))

pub returns-then-is_empty-clause-acts : goal.returns-then-is_empty-clause-acts
returns-then-is_empty-clause-acts g c honest s stands =
    counts_all g.D.Disk.state c.args.store.now c.if-store.false s stands (terms_view c.args.terms.now) (no_terms _ c.args.terms.now (sym c.is_empty.ensures ∙ c.if-is_empty.true)) c.in_ok-all.all (c.in_ok-all.ensures.counted ∙ ap (λ (gs : List FileGroup). rows_in gs) (c.blocks-then-is_empty.ensures ∙ c.groups.ensures.are))

pub returns-in_err-filter-clause-acts : goal.returns-in_err-filter-clause-acts
returns-in_err-filter-clause-acts g c honest s stands =
    let old = c.args.store.now in
    let terms = terms_view c.args.terms.now in
    refused (λ (r : Result ℕ Refusal). ActsFrom g.D.Disk.state old old (count terms) (answered counted r) s) c.from_residual-in_err-filter.result c.in_err-filter.field-0.0 c.from_residual-in_err-filter.ensures.1
    (count_refused g.D.Disk.state old c.if-store.false s stands terms c.in_err-filter.field-0.0
    (subst (λ (fs : Fields). HasCause (λ f. tests_of (leaves_of fs) terms ≡ Err f) c.in_err-filter.field-0.0) (c.schema.ensures ∙ stands.shows.schema) c.in_err-filter.ensures.which))

pub returns-in_err-filter-clause-cause : goal.returns-in_err-filter-clause-cause
returns-in_err-filter-clause-cause g c honest s stands =
    let old = c.args.store.now in
    refused (λ (r : Result ℕ Refusal). is_failure (answered counted r) ≡ true → HasFailed (g.D.Disk.state old.vault.disk) (g.D.Disk.state old.vault.disk)) c.from_residual-in_err-filter.result c.in_err-filter.field-0.0 c.from_residual-in_err-filter.ensures.1
    (λ h. absurd (no_failure (leaves_of c.schema.result.now) (terms_view c.args.terms.now) c.in_err-filter.field-0.0 c.in_err-filter.ensures.which h))

pub returns-in_err-found-clause-acts : goal.returns-in_err-found-clause-acts
returns-in_err-found-clause-acts g c honest s stands =
    let old = c.args.store.now in
    let terms = terms_view c.args.terms.now in
    let tests = tests_in c.in_ok-filter.filter in
    let made = c.in_ok-filter.ensures.made in
    let failed = c.in_err-found in
    refused (λ (r : Result ℕ Refusal). ActsFrom g.D.Disk.state old (record old { vault = c.count_rows.new.vault }) (count terms) (answered counted r) s) c.from_residual-in_err-found.result failed.field-0.0 c.from_residual-in_err-found.ensures.1
    (count_stopped g.D.Disk.state old c.if-store.false s stands terms tests c.schema.result.now c.schema.ensures made c.count_rows.new.vault (failed.ensures.effect.unchanged honest) failed.field-0.0
    (failed.ensures.only honest s.table.groups (table_held g.D.Disk.state old c.if-store.false s stands terms tests c.schema.result.now c.schema.ensures made)))

pub returns-clause-acts : goal.returns-clause-acts
returns-clause-acts g c honest s stands =
    let old = c.args.store.now in
    let terms = terms_view c.args.terms.now in
    let tests = tests_in c.in_ok-filter.filter in
    let made = c.in_ok-filter.ensures.made in
    let found = c.in_ok-found in
    counts_so g.D.Disk.state old c.if-store.false s stands terms tests c.schema.result.now c.schema.ensures made c.count_rows.new.vault (found.ensures.effect.unchanged honest) found.found
    (found.ensures.stands honest s.table.groups (table_held g.D.Disk.state old c.if-store.false s stands terms tests c.schema.result.now c.schema.ensures made))

pub returns-then-store-clause-leaves : goal.returns-then-store-clause-leaves
returns-then-store-clause-leaves g c = same g.D.Disk.state c.args.store.now

pub returns-in_err-all-clause-leaves : goal.returns-in_err-all-clause-leaves
returns-in_err-all-clause-leaves g c = same g.D.Disk.state c.args.store.now

pub returns-then-is_empty-clause-leaves : goal.returns-then-is_empty-clause-leaves
returns-then-is_empty-clause-leaves g c = same g.D.Disk.state c.args.store.now

pub returns-in_err-filter-clause-leaves : goal.returns-in_err-filter-clause-leaves
returns-in_err-filter-clause-leaves g c = same g.D.Disk.state c.args.store.now

pub returns-in_err-found-clause-leaves : goal.returns-in_err-found-clause-leaves
returns-in_err-found-clause-leaves g c = only_read g.D.Disk.state c.args.store.now (record c.args.store.now { vault = c.count_rows.new.vault }) c.in_err-found.ensures.effect.unchanged refl

pub returns-clause-leaves : goal.returns-clause-leaves
returns-clause-leaves g c = only_read g.D.Disk.state c.args.store.now (record c.args.store.now { vault = c.count_rows.new.vault }) c.in_ok-found.ensures.effect.unchanged refl

pub returns-then-is_empty-clause-absent : goal.returns-then-is_empty-clause-absent
returns-then-is_empty-clause-absent g c honest tests asked =
    let root = root_of c.args.store.now.manifest in
    let disk = g.D.Disk.state c.args.store.now.vault.disk in
    let none = no_tests (leaves_of root.schema) (terms_view c.args.terms.now) tests (no_terms _ c.args.terms.now (sym c.is_empty.ensures ∙ c.if-is_empty.true)) asked.made in
    subst (λ (ts : List (List Test)). AreSpared disk ts root [] root.groups) (sym none) (spared_all disk root root.groups)

pub returns-clause-absent : goal.returns-clause-absent
returns-clause-absent g c honest tests asked =
    let root = root_of c.args.store.now.manifest in
    let disk = g.D.Disk.state c.args.store.now.vault.disk in
    let own : tests_of (leaves_of root.schema) (terms_view c.args.terms.now) ≡ Ok (tests_in c.in_ok-filter.filter) = ap (λ (fs : Fields). tests_of (leaves_of fs) (terms_view c.args.terms.now)) (sym c.schema.ensures) ∙ c.in_ok-filter.ensures.made in
    let both : Ok (tests_in c.in_ok-filter.filter) ≡ Ok tests = sym own ∙ asked.made in
    let same : tests_in c.in_ok-filter.filter ≡ tests = cc in
    subst (λ (ts : List (List Test)). AreSpared disk ts root [] root.groups) same (c.in_ok-found.ensures.absent honest (record { over = (terms_view c.args.terms.now, own); keyed = asked.keyed }))
