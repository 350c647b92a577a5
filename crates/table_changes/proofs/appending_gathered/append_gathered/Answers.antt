use Rattle.std.proofs.Common.{◌≡◌, ◌≤◌, ◌<◌, ℕ, true, refl, sym, ◌∙◌, arith}
use Rattle.std.proofs.lemmas.Bool.{false≢true}
use Rattle.std.proofs.lemmas.List.{nil_from_length}
use Rattle.vault.specs.Calls.{HasFailed}
use Rattle.vault.proofs.Chained.{refused}
use Rattle.table.specs.Calls.{append, done}
use Rattle.table.specs.Refusing.{is_failure}
use Rattle.table.specs.Views.{answered}
use Rattle.table_state.specs.Promises.{ActsFrom}
use Rattle.table_commits.proofs.UnchangedRefusals.{acts_shut}
use Rattle.table_changes.proofs.NotInDoubt.{passed_shut}
use Rattle.table_changes.proofs.AppendChecks.{columns, is_full, fine, no_rows}
use Rattle.table_changes.proofs.GatheredChecks.{no_fault, all_fit, with_keys, without, groups_are, groups_refused, groups_calm, groups_sure, not_none}
use Rattle.table_changes.proofs.appending_gathered.append_gathered.Goals as goal

pub returns-then-store-clause-acts : goal.returns-then-store-clause-acts
returns-then-store-clause-acts g c given held fits = acts_shut g.D.Disk.state c.args.store.now (append given) refl c.if-store.true

pub returns-then-not-is_gathered_for-clause-acts : goal.returns-then-not-is_gathered_for-clause-acts
returns-then-not-is_gathered_for-clause-acts g c given held fits honest s stands = absurd (false≢true (sym c.if-not-is_gathered_for.true ∙ c.is_gathered_for.ensures.1 fits))

pub returns-then-store-ge-MOST_NUMBERS-clause-acts : goal.returns-then-store-ge-MOST_NUMBERS-clause-acts
returns-then-store-ge-MOST_NUMBERS-clause-acts g c given held fits honest s stands =
    let high : 9223372036854775808 ≤ s.next_group = let a = stands.shows.next_group in let b = c.if-store-ge-MOST_NUMBERS.true in omega (arith, a, b) in
    is_full g.D.Disk.state c.args.store.now s stands (sym stands.shows.closed ∙ c.if-store.false) given high

pub returns-in_err-groups-clause-acts : goal.returns-in_err-groups-clause-acts
returns-in_err-groups-clause-acts g c given held fits honest s stands =
    let old = c.args.store.now in
    let is_open = sym stands.shows.closed ∙ c.if-store.false in
    let low : s.next_group < 9223372036854775808 = let a = stands.shows.next_group in let b = c.if-store-ge-MOST_NUMBERS.false in omega (arith, a, b) in
    refused (λ r. ActsFrom g.D.Disk.state old old (append given) (answered {T = ℕ} (λ x. done x) r) s) c.from_residual.result _ c.from_residual.ensures.1
    (groups_refused g.D.Disk.state old s stands is_open given low (all_fit g.D.Disk.state old s stands.shows c.args.gathered given held fits) c.in_err-groups.field-0.0 c.in_err-groups.ensures.which
    (λ fault. without g.D.Disk.state old s stands.shows c.args.gathered given held fits (c.in_err-groups.ensures.only fault given held)))

pub returns-then-count-eq0-clause-acts : goal.returns-then-count-eq0-clause-acts
returns-then-count-eq0-clause-acts g c given held fits honest s stands =
    let old = c.args.store.now in
    let is_open = sym stands.shows.closed ∙ c.if-store.false in
    let low : s.next_group < 9223372036854775808 = let a = stands.shows.next_group in let b = c.if-store-ge-MOST_NUMBERS.false in omega (arith, a, b) in
    let shows = stands.shows in
    let can = with_keys g.D.Disk.state old s shows c.args.gathered given held fits (c.in_ok-groups.ensures.fine given held) in
    let fault = no_fault s.table (columns g.D.Disk.state old s stands is_open given) given (all_fit g.D.Disk.state old s shows c.args.gathered given held fits) can in
    let many = c.len-count.ensures.counted given held in
    no_rows g.D.Disk.state old s stands is_open given low fault (nil_from_length given (let z = c.if-count-eq0.true in omega (arith, many, z)))

pub returns-clause-acts : goal.returns-clause-acts
returns-clause-acts g c given held fits honest s stands =
    let old = c.args.store.now in
    let is_open = sym stands.shows.closed ∙ c.if-store.false in
    let low : s.next_group < 9223372036854775808 = let a = stands.shows.next_group in let b = c.if-store-ge-MOST_NUMBERS.false in omega (arith, a, b) in
    let shows = stands.shows in
    let can = with_keys g.D.Disk.state old s shows c.args.gathered given held fits (c.in_ok-groups.ensures.fine given held) in
    let fault = no_fault s.table (columns g.D.Disk.state old s stands is_open given) given (all_fit g.D.Disk.state old s shows c.args.gathered given held fits) can in
    let many = c.len-count.ensures.counted given held in
    c.append_groups.ensures.acts honest s given stands is_open (fine g.D.Disk.state old s stands is_open given low fault) (not_none given (λ none. let z = c.if-count-eq0.false in omega (arith, many, none, z))) many
    (groups_are g.D.Disk.state old s shows c.args.gathered given held fits c.in_ok-groups.groups.items (c.in_ok-groups.ensures.groups given held))

pub returns-clause-cause : goal.returns-clause-cause
returns-clause-cause g c given held fits honest s stands failed =
    let old = c.args.store.now in
    let is_open = sym stands.shows.closed ∙ c.if-store.false in
    let low : s.next_group < 9223372036854775808 = let a = stands.shows.next_group in let b = c.if-store-ge-MOST_NUMBERS.false in omega (arith, a, b) in
    let shows = stands.shows in
    let can = with_keys g.D.Disk.state old s shows c.args.gathered given held fits (c.in_ok-groups.ensures.fine given held) in
    let fault = no_fault s.table (columns g.D.Disk.state old s stands is_open given) given (all_fit g.D.Disk.state old s shows c.args.gathered given held fits) can in
    let many = c.len-count.ensures.counted given held in
    c.append_groups.ensures.cause honest s given stands is_open (fine g.D.Disk.state old s stands is_open given low fault) (not_none given (λ none. let z = c.if-count-eq0.false in omega (arith, many, none, z))) many
    (groups_are g.D.Disk.state old s shows c.args.gathered given held fits c.in_ok-groups.groups.items (c.in_ok-groups.ensures.groups given held)) failed

pub returns-in_err-groups-clause-cause : goal.returns-in_err-groups-clause-cause
returns-in_err-groups-clause-cause g c given held fits honest s stands =
    let disk = g.D.Disk.state c.args.store.now.vault.disk in
    refused (λ r. is_failure (answered {T = ℕ} (λ x. done x) r) ≡ true → HasFailed disk disk) c.from_residual.result _ c.from_residual.ensures.1
    (λ failed. absurd (groups_calm c.in_err-groups.field-0.0 c.in_err-groups.ensures.which failed))

pub returns-in_err-groups-clause-doubt : goal.returns-in_err-groups-clause-doubt
returns-in_err-groups-clause-doubt g c = passed_shut c.args.store.now c.from_residual.result _ c.from_residual.ensures.1 (groups_sure c.in_err-groups.field-0.0 c.in_err-groups.ensures.which)

pub returns-then-store-clause-other : goal.returns-then-store-clause-other
returns-then-store-clause-other g c = λ none is_open. absurd (false≢true (sym is_open ∙ c.if-store.true))

pub returns-then-store-ge-MOST_NUMBERS-clause-other : goal.returns-then-store-ge-MOST_NUMBERS-clause-other
returns-then-store-ge-MOST_NUMBERS-clause-other g c = λ none is_open. absurd (none (c.is_gathered_for.ensures.0 c.if-not-is_gathered_for.false))

pub returns-in_err-groups-clause-other : goal.returns-in_err-groups-clause-other
returns-in_err-groups-clause-other g c = λ none is_open. absurd (none (c.is_gathered_for.ensures.0 c.if-not-is_gathered_for.false))

pub returns-then-count-eq0-clause-other : goal.returns-then-count-eq0-clause-other
returns-then-count-eq0-clause-other g c = λ none is_open. absurd (none (c.is_gathered_for.ensures.0 c.if-not-is_gathered_for.false))

pub returns-clause-other : goal.returns-clause-other
returns-clause-other g c = λ none is_open. absurd (none (c.is_gathered_for.ensures.0 c.if-not-is_gathered_for.false))

pub returns-clause-tidy : goal.returns-clause-tidy
returns-clause-tidy g c given held fits honest s stands keeps =
    let old = c.args.store.now in
    let is_open = sym stands.shows.closed ∙ c.if-store.false in
    let low : s.next_group < 9223372036854775808 = let a = stands.shows.next_group in let b = c.if-store-ge-MOST_NUMBERS.false in omega (arith, a, b) in
    let shows = stands.shows in
    let can = with_keys g.D.Disk.state old s shows c.args.gathered given held fits (c.in_ok-groups.ensures.fine given held) in
    let fault = no_fault s.table (columns g.D.Disk.state old s stands is_open given) given (all_fit g.D.Disk.state old s shows c.args.gathered given held fits) can in
    c.append_groups.ensures.tidy honest s stands is_open given (fine g.D.Disk.state old s stands is_open given low fault)
    (groups_are g.D.Disk.state old s shows c.args.gathered given held fits c.in_ok-groups.groups.items (c.in_ok-groups.ensures.groups given held)) keeps

pub returns-then-count-eq0-clause-tidy : goal.returns-then-count-eq0-clause-tidy
returns-then-count-eq0-clause-tidy g c given held fits honest s stands keeps some = absurd (some refl)
