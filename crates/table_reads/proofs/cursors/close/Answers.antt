use Rattle.std.proofs.Common.{refl, sym, ◌∙◌, ap}
use Rattle.vault.proofs.Chained.{refused}
use Rattle.table.specs.Calls.{close, accepted}
use Rattle.table.specs.Views.{answered}
use Rattle.table_state.specs.Lookups.{cursor_at}
use Rattle.table_state.specs.Promises.{ActsFrom}
use Rattle.table_commits.proofs.UnchangedRefusals.{acts_shut}
use Rattle.table_reads.proofs.SomethingEnds.{not_there, is_there, cursor_ended}
use Rattle.table_reads.proofs.AbortsAndCloses.{no_cursor, close_refused, is_closed}
use Rattle.table_reads.proofs.FilesLeftAlone.{same, still, still_by}
use Rattle.table_reads.proofs.cursors.close.Goals as goal

pub returns-then-store-clause-acts : goal.returns-then-store-clause-acts
returns-then-store-clause-acts g c = acts_shut g.D.Disk.state c.args.store.now (close c.args.cursor) refl c.if-store.true

pub returns-then-is_none-clause-acts : goal.returns-then-is_none-clause-acts
returns-then-is_none-clause-acts g c honest s stands =
    let old = c.args.store.now in
    let none = not_there (λ j. j.now) c.find_cursor.result (cursor_at c.args.cursor c.as_slice.result.now) c.is_none.result c.is_none.ensures c.if-is_none.true c.find_cursor.ensures in
    no_cursor g.D.Disk.state old s stands (sym stands.shows.closed ∙ c.if-store.false) c.args.cursor (ap (cursor_at c.args.cursor) (sym c.as_slice.ensures.value) ∙ none)

pub returns-in_err-step-clause-acts : goal.returns-in_err-step-clause-acts
returns-in_err-step-clause-acts g c honest s stands =
    let old = c.args.store.now in
    let some = is_there (λ j. j.now) c.find_cursor.result (cursor_at c.args.cursor c.as_slice.result.now) c.is_none.result c.is_none.ensures c.if-is_none.false c.find_cursor.ensures in
    let found = ap (cursor_at c.args.cursor) (sym c.as_slice.ensures.value) ∙ some.1 in
    refused (λ r. ActsFrom g.D.Disk.state old (record old { snapshots = c.step.new.self }) (close c.args.cursor) (answered {T = Unit {0}} (λ x. accepted) r) s) c.from_residual.result _ c.from_residual.ensures.1
    (close_refused g.D.Disk.state old s stands (sym stands.shows.closed ∙ c.if-store.false) c.args.cursor some.0 found c.in_err-step.field-0.0 c.in_err-step.ensures.which c.step.new.self c.in_err-step.ensures.unchanged)

pub returns-clause-acts : goal.returns-clause-acts
returns-clause-acts g c honest s stands =
    let old = c.args.store.now in
    let some = is_there (λ j. j.now) c.find_cursor.result (cursor_at c.args.cursor c.as_slice.result.now) c.is_none.result c.is_none.ensures c.if-is_none.false c.find_cursor.ensures in
    let found = ap (cursor_at c.args.cursor) (sym c.as_slice.ensures.value) ∙ some.1 in
    is_closed g.D.Disk.state old s stands (sym stands.shows.closed ∙ c.if-store.false) c.args.cursor some.0 found c.step.new.self c.in_ok-step.ensures.done c.end_cursor.new.cursors c.end_cursor.ensures c.let_go.new.store
    (c.let_go.ensures.clears honest) c.let_go.ensures.keeps

pub returns-then-store-clause-leaves : goal.returns-then-store-clause-leaves
returns-then-store-clause-leaves g c k = same g.D.Disk.state c.args.store.now

pub returns-then-is_none-clause-leaves : goal.returns-then-is_none-clause-leaves
returns-then-is_none-clause-leaves g c k = same g.D.Disk.state c.args.store.now

pub returns-in_err-step-clause-leaves : goal.returns-in_err-step-clause-leaves
returns-in_err-step-clause-leaves g c k = still g.D.Disk.state c.args.store.now (record c.args.store.now { snapshots = c.step.new.self }) refl refl

pub returns-clause-leaves : goal.returns-clause-leaves
returns-clause-leaves g c k = still_by g.D.Disk.state c.args.store.now c.let_go.new.store _ (c.let_go.ensures.keeps k) refl refl

pub returns-clause-tidy : goal.returns-clause-tidy
returns-clause-tidy g c honest s stands keeps =
    let is_open = sym stands.shows.closed ∙ c.if-store.false in
    let shown = cursor_ended g.D.Disk.state c.args.store.now s stands is_open c.args.cursor c.step.new.self c.in_ok-step.ensures.done c.end_cursor.new.cursors c.end_cursor.ensures in
    c.let_go.ensures.tidy honest (shown.shown is_open).tracked keeps
