use Rattle.std.proofs.Common.{◌≡◌, ◌≤◌, ◌<◌, ℕ, true, refl, sym, ◌∙◌, ap, subst, arith, inr}
use Rattle.bits.specs.declared.refusal.Refusal.{Refusal}
use Rattle.bits.specs.declared.refusal.Refusal.TheVariants.{Key}
use Rattle.schema.specs.Shape.{Fields}
use Rattle.footer.specs.File.{FileMeans}
use Rattle.manifest.specs.Groups.{Root, root_of}
use Rattle.vault.specs.Calls.{HasFailed}
use Rattle.vault.proofs.Chained.{refused}
use Rattle.table.specs.Calls.{import, done, refused as refused_answer}
use Rattle.table.specs.Views.{answered}
use Rattle.table.specs.Refusing.{is_failure}
use Rattle.table_commits.specs.Gathering.{IsReadFor, IsNotRead}
use Rattle.table_state.specs.Promises.{ActsFrom}
use Rattle.table_commits.proofs.UnchangedRefusals.{acts_shut}
use Rattle.table_changes.proofs.AppendChecks.{columns}
use Rattle.table_changes.proofs.GatheredChecks.{no_fault, keyless, with_keys, without, no_first_fault, some_first_fault}
use Rattle.table_commits.proofs.RowsGathered.{is_memory}
use Rattle.table_changes.proofs.ImportEnds.{is_full, none_read, none_fails, row_refused, as_append, file_fits, no_room}
use Rattle.table_changes.proofs.importing.import.Goals as goal

pub returns-then-store-clause-acts : goal.returns-then-store-clause-acts
returns-then-store-clause-acts g c = acts_shut g.D.Disk.state c.args.store.now (import c.args.bytes.now) refl c.if-store.true

pub returns-then-store-ge-MOST_NUMBERS-clause-acts : goal.returns-then-store-ge-MOST_NUMBERS-clause-acts
returns-then-store-ge-MOST_NUMBERS-clause-acts g c honest s stands =
    let high : 9223372036854775808 ≤ s.next_group = let a = stands.shows.next_group in let b = c.if-store-ge-MOST_NUMBERS.true in omega (arith, a, b) in
    is_full g.D.Disk.state c.args.store.now s stands (sym stands.shows.closed ∙ c.if-store.false) c.args.bytes.now high

pub returns-in_err-table-clause-acts : goal.returns-in_err-table-clause-acts
returns-in_err-table-clause-acts g c honest s stands =
    let old = c.args.store.now in
    let memory = is_memory c.in_err-table.field-0.0 c.in_err-table.ensures.which in
    refused (λ r. ActsFrom g.D.Disk.state old old (import c.args.bytes.now) (answered {T = ℕ} (λ x. done x) r) s) c.from_residual.result _ c.from_residual.ensures.1
    (subst (λ (e : Refusal). ActsFrom g.D.Disk.state old old (import c.args.bytes.now) (refused_answer e) s) (sym memory) (no_room g.D.Disk.state old s stands (sym stands.shows.closed ∙ c.if-store.false) c.args.bytes.now))

pub returns-in_err-gathered-clause-acts : goal.returns-in_err-gathered-clause-acts
returns-in_err-gathered-clause-acts g c honest s stands =
    let old = c.args.store.now in
    let is_open = sym stands.shows.closed ∙ c.if-store.false in
    let low : s.next_group < 9223372036854775808 = let a = stands.shows.next_group in let b = c.if-store-ge-MOST_NUMBERS.false in omega (arith, a, b) in
    let schema : (root_of c.in_ok-table.table).schema ≡ s.table.schema = ap (λ (r : Root). r.schema) c.in_ok-table.ensures.same ∙ stands.shows.schema in
    let e = c.in_err-gathered.field-0.0 in
    refused (λ r. ActsFrom g.D.Disk.state old old (import c.args.bytes.now) (answered {T = ℕ} (λ x. done x) r) s) c.from_residual-in_err-gathered.result _ c.from_residual-in_err-gathered.ensures.1
    (none_read g.D.Disk.state old s stands is_open c.args.bytes.now low e (subst (λ (fs : Fields). IsNotRead fs c.args.bytes.now e) schema c.in_err-gathered.ensures.which))

pub returns-in_err-gathered-clause-cause : goal.returns-in_err-gathered-clause-cause
returns-in_err-gathered-clause-cause g c honest s stands =
    let disk = g.D.Disk.state c.args.store.now.vault.disk in
    refused (λ r. is_failure (answered {T = ℕ} (λ x. done x) r) ≡ true → HasFailed disk disk) c.from_residual-in_err-gathered.result _ c.from_residual-in_err-gathered.ensures.1
    (λ tells. absurd (none_fails (root_of c.in_ok-table.table).schema c.args.bytes.now c.in_err-gathered.field-0.0 c.in_err-gathered.ensures.which tells))

pub returns-then-is_some-clause-acts : goal.returns-then-is_some-clause-acts
returns-then-is_some-clause-acts g c honest s stands =
    let old = c.args.store.now in
    let is_open = sym stands.shows.closed ∙ c.if-store.false in
    let low : s.next_group < 9223372036854775808 = let a = stands.shows.next_group in let b = c.if-store-ge-MOST_NUMBERS.false in omega (arith, a, b) in
    let gathered = c.in_ok-gathered.gathered in
    let read = subst (λ (r : Root). IsReadFor r old.options c.args.bytes.now gathered) c.in_ok-table.ensures.same c.in_ok-gathered.ensures.read in
    let means = subst (λ (fs : Fields). FileMeans c.args.bytes.now fs read.rows) stands.shows.schema read.means in
    let faulty = some_first_fault gathered read.rows c.fault.result (c.fault.ensures.first read.rows read.held) (sym c.is_some.ensures ∙ c.if-is_some.true) in
    row_refused g.D.Disk.state old s stands is_open c.args.bytes.now low read.rows means Key (inr refl)
    (keyless s.table (columns g.D.Disk.state old s stands is_open read.rows) read.rows (file_fits c.args.bytes.now s.table.schema read.rows means)
    (without g.D.Disk.state old s stands.shows gathered read.rows read.held read.table faulty))

pub returns-clause-acts : goal.returns-clause-acts
returns-clause-acts g c honest s stands =
    let old = c.args.store.now in
    let is_open = sym stands.shows.closed ∙ c.if-store.false in
    let low : s.next_group < 9223372036854775808 = let a = stands.shows.next_group in let b = c.if-store-ge-MOST_NUMBERS.false in omega (arith, a, b) in
    let gathered = c.in_ok-gathered.gathered in
    let read = subst (λ (r : Root). IsReadFor r old.options c.args.bytes.now gathered) c.in_ok-table.ensures.same c.in_ok-gathered.ensures.read in
    let means = subst (λ (fs : Fields). FileMeans c.args.bytes.now fs read.rows) stands.shows.schema read.means in
    let keyed = no_first_fault gathered read.rows c.fault.result (c.fault.ensures.first read.rows read.held) (sym c.is_some.ensures ∙ c.if-is_some.false) in
    let fault = no_fault s.table (columns g.D.Disk.state old s stands is_open read.rows) read.rows (file_fits c.args.bytes.now s.table.schema read.rows means)
    (with_keys g.D.Disk.state old s stands.shows gathered read.rows read.held read.table keyed) in
    as_append g.D.Disk.state old s stands is_open c.args.bytes.now low read.rows means fault c.append_gathered.new.store c.append_gathered.result
    (c.append_gathered.ensures.acts read.rows read.held read.table honest s stands)

pub returns-clause-cause : goal.returns-clause-cause
returns-clause-cause g c honest s stands failed =
    let read = subst (λ (r : Root). IsReadFor r c.args.store.now.options c.args.bytes.now c.in_ok-gathered.gathered) c.in_ok-table.ensures.same c.in_ok-gathered.ensures.read in
    c.append_gathered.ensures.cause read.rows read.held read.table honest s stands failed

pub returns-clause-tidy : goal.returns-clause-tidy
returns-clause-tidy g c honest s stands keeps =
    let read = subst (λ (r : Root). IsReadFor r c.args.store.now.options c.args.bytes.now c.in_ok-gathered.gathered) c.in_ok-table.ensures.same c.in_ok-gathered.ensures.read in
    c.append_gathered.ensures.tidy read.rows read.held read.table honest s stands keeps
