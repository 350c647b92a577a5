use Rattle.std.proofs.Common.{◌≡◌, ◌≤◌, ◌<◌, ℕ, true, List, Result, Ok, Err, refl, sym, ◌∙◌, subst, arith}
use Rattle.std.specs.Prelude.{IfOk}
use Rattle.bits.specs.Refusals.{HasCause}
use Rattle.schema.specs.Shape.{Fields}
use Rattle.schema.specs.Stripe.{leaves_of}
use Rattle.vault.specs.Calls.{HasFailed}
use Rattle.vault.proofs.Chained.{refused}
use Rattle.filter.specs.Terms.{terms_view, tests_of}
use Rattle.filter.specs.Test.{Test, tests_in}
use Rattle.manifest.specs.Groups.{root_of}
use Rattle.table.specs.Calls.{remove, done}
use Rattle.table.specs.Refusing.{is_failure}
use Rattle.table.specs.Views.{answered}
use Rattle.table_state.specs.Promises.{ActsFrom}
use Rattle.table_changes.specs.Removing.{HoldNoneIfAbsent}
use Rattle.table_commits.proofs.UnchangedRefusals.{acts_shut}
use Rattle.table_reads.proofs.TermFaults.{no_failure}
use Rattle.table_changes.proofs.NotInDoubt.{terms_sure, passed_shut}
use Rattle.table_changes.proofs.RemovalChecks.{is_full, term_refused, unfaulted}
use Rattle.table_changes.proofs.removing.remove.Goals as goal

pub returns-then-store-clause-acts : goal.returns-then-store-clause-acts
returns-then-store-clause-acts g c = acts_shut g.D.Disk.state c.args.store.now (remove (terms_view c.args.terms.now)) refl c.if-store.true

pub returns-then-store-ge-MOST_NUMBERS-clause-acts : goal.returns-then-store-ge-MOST_NUMBERS-clause-acts
returns-then-store-ge-MOST_NUMBERS-clause-acts g c honest s stands =
    let high : 9223372036854775808 ≤ s.next_group = let a = stands.shows.next_group in let b = c.if-store-ge-MOST_NUMBERS.true in omega (arith, a, b) in
    is_full g.D.Disk.state c.args.store.now s stands (sym stands.shows.closed ∙ c.if-store.false) (terms_view c.args.terms.now) high

pub returns-in_err-filter-clause-acts : goal.returns-in_err-filter-clause-acts
returns-in_err-filter-clause-acts g c honest s stands =
    let old = c.args.store.now in
    let terms = terms_view c.args.terms.now in
    let low : s.next_group < 9223372036854775808 = let a = stands.shows.next_group in let b = c.if-store-ge-MOST_NUMBERS.false in omega (arith, a, b) in
    refused (λ (r : Result ℕ _). ActsFrom g.D.Disk.state old old (remove terms) (answered done r) s) c.from_residual.result c.in_err-filter.field-0.0 c.from_residual.ensures.1
    (term_refused g.D.Disk.state old s stands (sym stands.shows.closed ∙ c.if-store.false) terms low c.in_err-filter.field-0.0
    (subst (λ (fs : Fields). HasCause (λ f. tests_of (leaves_of fs) terms ≡ Err f) c.in_err-filter.field-0.0) (c.schema.ensures ∙ stands.shows.schema) c.in_err-filter.ensures.which))

pub returns-in_err-filter-clause-cause : goal.returns-in_err-filter-clause-cause
returns-in_err-filter-clause-cause g c honest s stands =
    let old = c.args.store.now in
    refused (λ (r : Result ℕ _). is_failure (answered done r) ≡ true → HasFailed (g.D.Disk.state old.vault.disk) (g.D.Disk.state old.vault.disk)) c.from_residual.result c.in_err-filter.field-0.0 c.from_residual.ensures.1
    (λ h. absurd (no_failure (leaves_of c.schema.result.now) (terms_view c.args.terms.now) c.in_err-filter.field-0.0 c.in_err-filter.ensures.which h))

pub returns-clause-acts : goal.returns-clause-acts
returns-clause-acts g c honest s stands =
    let old = c.args.store.now in
    let terms = terms_view c.args.terms.now in
    let is_open = sym stands.shows.closed ∙ c.if-store.false in
    let low : s.next_group < 9223372036854775808 = let a = stands.shows.next_group in let b = c.if-store-ge-MOST_NUMBERS.false in omega (arith, a, b) in
    let tests = tests_in c.in_ok-filter.filter in
    let made = subst (λ (fs : Fields). tests_of (leaves_of fs) terms ≡ Ok tests) (c.schema.ensures ∙ stands.shows.schema) c.in_ok-filter.ensures.made in
    c.remove_rows.ensures.acts honest s terms stands is_open (unfaulted g.D.Disk.state old s stands is_open terms low tests made) made

pub returns-clause-cause : goal.returns-clause-cause
returns-clause-cause g c honest s stands failed =
    let old = c.args.store.now in
    let terms = terms_view c.args.terms.now in
    let is_open = sym stands.shows.closed ∙ c.if-store.false in
    let low : s.next_group < 9223372036854775808 = let a = stands.shows.next_group in let b = c.if-store-ge-MOST_NUMBERS.false in omega (arith, a, b) in
    let tests = tests_in c.in_ok-filter.filter in
    let made = subst (λ (fs : Fields). tests_of (leaves_of fs) terms ≡ Ok tests) (c.schema.ensures ∙ stands.shows.schema) c.in_ok-filter.ensures.made in
    c.remove_rows.ensures.cause honest s terms stands is_open (unfaulted g.D.Disk.state old s stands is_open terms low tests made) made failed

pub returns-in_err-filter-clause-doubt : goal.returns-in_err-filter-clause-doubt
returns-in_err-filter-clause-doubt g c =
    passed_shut c.args.store.now c.from_residual.result c.in_err-filter.field-0.0 c.from_residual.ensures.1
    (terms_sure (leaves_of c.schema.result.now) (terms_view c.args.terms.now) c.in_err-filter.field-0.0 c.in_err-filter.ensures.which)

pub returns-clause-absent : goal.returns-clause-absent
returns-clause-absent g c honest tests asked =
    let root = root_of c.args.store.now.manifest in
    let terms = terms_view c.args.terms.now in
    let own : tests_of (leaves_of root.schema) terms ≡ Ok (tests_in c.in_ok-filter.filter) = subst (λ (fs : Fields). tests_of (leaves_of fs) terms ≡ Ok (tests_in c.in_ok-filter.filter)) c.schema.ensures c.in_ok-filter.ensures.made in
    let both : Ok (tests_in c.in_ok-filter.filter) ≡ Ok tests = sym own ∙ asked.made in
    let same : tests_in c.in_ok-filter.filter ≡ tests = cc in
    subst (λ (ts : List (List Test)). IfOk c.remove_rows.result (λ n. n ≡ 0 → HoldNoneIfAbsent (g.D.Disk.state c.args.store.now.vault.disk) ts root)) same
    (c.remove_rows.ensures.absent honest (record { over = (terms, own); keyed = asked.keyed }))

pub returns-clause-tidy : goal.returns-clause-tidy
returns-clause-tidy g c honest s stands keeps =
    let old = c.args.store.now in
    let terms = terms_view c.args.terms.now in
    let is_open = sym stands.shows.closed ∙ c.if-store.false in
    let low : s.next_group < 9223372036854775808 = let a = stands.shows.next_group in let b = c.if-store-ge-MOST_NUMBERS.false in omega (arith, a, b) in
    let tests = tests_in c.in_ok-filter.filter in
    let made = subst (λ (fs : Fields). tests_of (leaves_of fs) terms ≡ Ok tests) (c.schema.ensures ∙ stands.shows.schema) c.in_ok-filter.ensures.made in
    c.remove_rows.ensures.tidy honest s stands is_open terms (unfaulted g.D.Disk.state old s stands is_open terms low tests made) made keeps
