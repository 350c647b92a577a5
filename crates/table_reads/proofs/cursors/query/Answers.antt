use Rattle.std.proofs.Common.{◌≡◌, ℕ, true, false, not, Ok, Err, refl, sym, ◌∙◌, ap, subst}
use Rattle.bits.specs.declared.refusal.Refusal.TheVariants.{NoColumn}
use Rattle.bits.specs.Refusals.{HasCause}
use Rattle.vault.proofs.Chained.{refused}
use Rattle.vault.specs.Calls.{HasFailed}
use Rattle.schema.specs.Shape.{Fields}
use Rattle.schema.specs.Stripe.{leaves_of}
use Rattle.filter.specs.Terms.{terms_view, tests_of}
use Rattle.filter.specs.Test.{tests_in}
use Rattle.snapshots.specs.State.{opened, fault_of}
use Rattle.snapshots.specs.Views.{state_of}
use Rattle.table.specs.Cursors.{columns_fault, wanted_places}
use Rattle.table.specs.Faults.{unless}
use Rattle.table.specs.Calls.{query, cursor}
use Rattle.table.specs.Refusing.{is_failure}
use Rattle.table.specs.Views.{names_view, answered}
use Rattle.table_state.specs.declared.jobs.OpenCursor.{OpenCursor}
use Rattle.table_state.specs.Promises.{ActsFrom}
use Rattle.table_commits.proofs.UnchangedRefusals.{acts_shut}
use Rattle.table_commits.proofs.GroupRemovals.{poor}
use Rattle.table_reads.proofs.SomethingOpens.{only_poor}
use Rattle.table_reads.proofs.AppendsOpen.{asked}
use Rattle.table_reads.proofs.TermFaults.{no_failure}
use Rattle.table_reads.proofs.QueriesOpen.{query_full, filter_refused, no_column, opened_unrefused, cursor_refused, query_opened}
use Rattle.table_reads.proofs.FilesLeftAlone.{same, still_by}
use Rattle.table_reads.proofs.cursors.query.Goals as goal

pub returns-then-store-clause-acts : goal.returns-then-store-clause-acts
returns-then-store-clause-acts g c = acts_shut g.D.Disk.state c.args.store.now (query (terms_view c.args.terms.now) (names_view c.args.columns)) refl c.if-store.true

pub returns-then-not-can_open-clause-acts : goal.returns-then-not-can_open-clause-acts
returns-then-not-can_open-clause-acts g c honest s stands =
    let old = c.args.store.now in
    query_full g.D.Disk.state old s stands (sym stands.shows.closed ∙ c.if-store.false) (terms_view c.args.terms.now) (names_view c.args.columns)
    (asked 64 old.next_cursor c.as_slice.result.now old.cursors.items c.can_open.result false c.as_slice.ensures.value c.can_open.ensures c.if-not-can_open.true)

pub returns-in_err-filter-clause-acts : goal.returns-in_err-filter-clause-acts
returns-in_err-filter-clause-acts g c honest s stands =
    let old = c.args.store.now in
    let is_open = sym stands.shows.closed ∙ c.if-store.false in
    let terms = terms_view c.args.terms.now in
    let columns = names_view c.args.columns in
    let room = asked 64 old.next_cursor c.as_slice.result.now old.cursors.items c.can_open.result true c.as_slice.ensures.value c.can_open.ensures c.if-not-can_open.false in
    refused (λ r. ActsFrom g.D.Disk.state old old (query terms columns) (answered {T = ℕ} (λ n. cursor n) r) s) c.from_residual.result _ c.from_residual.ensures.1
    (filter_refused g.D.Disk.state old s stands is_open terms columns room c.in_err-filter.field-0.0
    (subst (λ (fs : Fields). HasCause (λ f. tests_of (leaves_of fs) terms ≡ Err f) c.in_err-filter.field-0.0) (c.schema.ensures ∙ stands.shows.schema) c.in_err-filter.ensures.which))

pub returns-in_err-filter-clause-cause : goal.returns-in_err-filter-clause-cause
returns-in_err-filter-clause-cause g c honest s stands =
    let old = c.args.store.now in
    refused (λ r. is_failure (answered {T = ℕ} (λ n. cursor n) r) ≡ true → HasFailed (g.D.Disk.state old.vault.disk) (g.D.Disk.state old.vault.disk)) c.from_residual.result _ c.from_residual.ensures.1
    (λ h. absurd (no_failure (leaves_of c.schema.result.now) (terms_view c.args.terms.now) c.in_err-filter.field-0.0 c.in_err-filter.ensures.which h))

pub returns-then-not-has_wanted-clause-acts : goal.returns-then-not-has_wanted-clause-acts
returns-then-not-has_wanted-clause-acts g c honest s stands =
    let old = c.args.store.now in
    let is_open = sym stands.shows.closed ∙ c.if-store.false in
    let terms = terms_view c.args.terms.now in
    let columns = names_view c.args.columns in
    let room = asked 64 old.next_cursor c.as_slice.result.now old.cursors.items c.can_open.result true c.as_slice.ensures.value c.can_open.ensures c.if-not-can_open.false in
    let made = subst (λ (fs : Fields). tests_of (leaves_of fs) terms ≡ Ok (tests_in c.in_ok-filter.filter)) (c.schema.ensures ∙ stands.shows.schema) c.in_ok-filter.ensures.made in
    let fields = c.schema-2.ensures ∙ stands.shows.schema in
    no_column g.D.Disk.state old s stands is_open terms columns room c.in_ok-filter.filter made
    (ap (λ (fs : Fields). columns_fault fs columns) (sym fields) ∙ c.has_wanted.ensures ∙ ap (λ b. unless b NoColumn) c.if-not-has_wanted.true)

pub returns-in_err-places-clause-acts : goal.returns-in_err-places-clause-acts
returns-in_err-places-clause-acts g c honest s stands =
    let old = c.args.store.now in
    let call = query (terms_view c.args.terms.now) (names_view c.args.columns) in
    refused (λ r. ActsFrom g.D.Disk.state old old call (answered {T = ℕ} (λ n. cursor n) r) s) c.from_residual-in_err-places.result _ c.from_residual-in_err-places.ensures.1
    (poor g.D.Disk.state old call refl (λ t e. ap not e) (λ t. refl) c.in_err-places.field-0.0 c.in_err-places.ensures.which c.if-store.false honest s stands)

pub returns-in_err-table-clause-acts : goal.returns-in_err-table-clause-acts
returns-in_err-table-clause-acts g c honest s stands =
    let old = c.args.store.now in
    let call = query (terms_view c.args.terms.now) (names_view c.args.columns) in
    refused (λ r. ActsFrom g.D.Disk.state old old call (answered {T = ℕ} (λ n. cursor n) r) s) c.from_residual-in_err-table.result _ c.from_residual-in_err-table.ensures.1
    (poor g.D.Disk.state old call refl (λ t e. ap not e) (λ t. refl) c.in_err-table.field-0.0 c.in_err-table.ensures.which c.if-store.false honest s stands)

pub returns-in_err-begin_cursor-clause-acts : goal.returns-in_err-begin_cursor-clause-acts
returns-in_err-begin_cursor-clause-acts g c honest s stands =
    let old = c.args.store.now in
    let is_open = sym stands.shows.closed ∙ c.if-store.false in
    let terms = terms_view c.args.terms.now in
    let columns = names_view c.args.columns in
    let call = query terms columns in
    let room = asked 64 old.next_cursor c.as_slice.result.now old.cursors.items c.can_open.result true c.as_slice.ensures.value c.can_open.ensures c.if-not-can_open.false in
    let failed = c.in_err-begin_cursor in
    refused (λ r. ActsFrom g.D.Disk.state old c.begin_cursor.new.self call (answered {T = ℕ} (λ n. cursor n) r) s) c.from_residual-in_err-begin_cursor.result _ c.from_residual-in_err-begin_cursor.ensures.1
    (cursor_refused g.D.Disk.state old s stands is_open call refl (ap not is_open) refl (fault_of (state_of old.snapshots) (opened old.next_cursor)) (opened_unrefused g.D.Disk.state old s stands is_open terms columns room)
    failed.field-0.0 failed.ensures.which c.begin_cursor.new.self failed.ensures.stays failed.ensures.as_were)

pub returns-in_err-begin_cursor-clause-cause : goal.returns-in_err-begin_cursor-clause-cause
returns-in_err-begin_cursor-clause-cause g c honest s stands =
    let old = c.args.store.now in
    let is_open = sym stands.shows.closed ∙ c.if-store.false in
    let room = asked 64 old.next_cursor c.as_slice.result.now old.cursors.items c.can_open.result true c.as_slice.ensures.value c.can_open.ensures c.if-not-can_open.false in
    let failed = c.in_err-begin_cursor in
    refused (λ r. is_failure (answered {T = ℕ} (λ n. cursor n) r) ≡ true → HasFailed (g.D.Disk.state old.vault.disk) (g.D.Disk.state c.begin_cursor.new.self.vault.disk)) c.from_residual-in_err-begin_cursor.result _ c.from_residual-in_err-begin_cursor.ensures.1
    (λ h. absurd (only_poor (fault_of (state_of old.snapshots) (opened old.next_cursor)) (opened_unrefused g.D.Disk.state old s stands is_open (terms_view c.args.terms.now) (names_view c.args.columns) room) failed.field-0.0 failed.ensures.which h))

pub returns-clause-acts : goal.returns-clause-acts
returns-clause-acts g c honest s stands =
    let old = c.args.store.now in
    let is_open = sym stands.shows.closed ∙ c.if-store.false in
    let terms = terms_view c.args.terms.now in
    let columns = names_view c.args.columns in
    let room = asked 64 old.next_cursor c.as_slice.result.now old.cursors.items c.can_open.result true c.as_slice.ensures.value c.can_open.ensures c.if-not-can_open.false in
    let filter = c.in_ok-filter.filter in
    let made = subst (λ (fs : Fields). tests_of (leaves_of fs) terms ≡ Ok (tests_in filter)) (c.schema.ensures ∙ stands.shows.schema) c.in_ok-filter.ensures.made in
    let tested = c.schema-2.ensures ∙ stands.shows.schema in
    let cut = c.schema-3.ensures ∙ stands.shows.schema in
    let x : OpenCursor = record { number = old.next_cursor; table = c.in_ok-table.table; filter = filter; places = c.in_ok-places.places; passed = 0; ended = false } in
    query_opened g.D.Disk.state old s stands is_open terms columns room filter made x refl c.in_ok-table.ensures.same refl (c.in_ok-places.ensures.made ∙ ap (λ (fs : Fields). wanted_places columns 0 fs) cut) refl refl
    (ap (λ (fs : Fields). columns_fault fs columns) (sym tested) ∙ c.has_wanted.ensures ∙ ap (λ b. unless b NoColumn) c.if-not-has_wanted.false)
    c.begin_cursor.new.self c.in_ok-begin_cursor.ensures.steps c.in_ok-begin_cursor.ensures.pushed c.in_ok-begin_cursor.ensures.same

pub returns-then-store-clause-leaves : goal.returns-then-store-clause-leaves
returns-then-store-clause-leaves g c = same g.D.Disk.state c.args.store.now

pub returns-then-not-can_open-clause-leaves : goal.returns-then-not-can_open-clause-leaves
returns-then-not-can_open-clause-leaves g c = same g.D.Disk.state c.args.store.now

pub returns-in_err-filter-clause-leaves : goal.returns-in_err-filter-clause-leaves
returns-in_err-filter-clause-leaves g c = same g.D.Disk.state c.args.store.now

pub returns-then-not-has_wanted-clause-leaves : goal.returns-then-not-has_wanted-clause-leaves
returns-then-not-has_wanted-clause-leaves g c = same g.D.Disk.state c.args.store.now

pub returns-in_err-places-clause-leaves : goal.returns-in_err-places-clause-leaves
returns-in_err-places-clause-leaves g c = same g.D.Disk.state c.args.store.now

pub returns-in_err-table-clause-leaves : goal.returns-in_err-table-clause-leaves
returns-in_err-table-clause-leaves g c = same g.D.Disk.state c.args.store.now

pub returns-in_err-begin_cursor-clause-leaves : goal.returns-in_err-begin_cursor-clause-leaves
returns-in_err-begin_cursor-clause-leaves g c = still_by g.D.Disk.state c.args.store.now c.begin_cursor.new.self _ c.in_err-begin_cursor.ensures.stays refl refl

pub returns-clause-leaves : goal.returns-clause-leaves
returns-clause-leaves g c = still_by g.D.Disk.state c.args.store.now c.begin_cursor.new.self _ c.in_ok-begin_cursor.ensures.same refl refl
