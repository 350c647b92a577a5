use Rattle.std.proofs.Common.{ℕ, List, Result, Err, refl, ◌∙◌, ap}
use Rattle.std.specs.Vec.{with_items}
use Rattle.bits.specs.declared.refusal.Refusal.{Refusal}
use Rattle.bits.specs.declared.refusal.Refusal.TheVariants.{Closed, NoCursor}
use Rattle.vault.proofs.Chained.{refused}
use Rattle.table.specs.declared.answer.Fetched.{Fetched}
use Rattle.table.specs.declared.answer.Fetched.TheVariants as fetched
use Rattle.table.specs.Calls.{fetch}
use Rattle.table.specs.Views.{answered, fetched_view}
use Rattle.table_reads.specs.Passing.{FetchReads, FetchesAbsent, batches_with, rows_fetched}
use Rattle.table_reads.proofs.AbsentFiles.{absent_over, absent_went, fetched_same}
use Rattle.table_reads.proofs.MovedCursors.{written_back}
use Rattle.table.specs.History.{next_answer}
use Rattle.table_state.specs.Promises.{ActsFrom}
use Rattle.table_commits.proofs.UnchangedRefusals.{acts_shut}
use Rattle.table_reads.proofs.FetchesWithoutCursor.{fetch_none, fetch_over}
use Rattle.table_reads.proofs.FetchesGoOn.{seen, at_of, none_at, poor, refused_so, went, reads_over, reads_went, reads_stopped, reads_shut, reads_none}
use Rattle.table_commits.proofs.GroupRemovals.{memory_so}
use Rattle.table_reads.proofs.ShownRows.{over_is}
use Rattle.table_reads.proofs.FilesLeftAlone.{same, only_read}
use Rattle.table_reads.proofs.cursors.fetch.Goals as goal

pub returns-then-store-clause-acts : goal.returns-then-store-clause-acts
returns-then-store-clause-acts g c = acts_shut g.D.Disk.state c.args.store.now (fetch c.args.cursor) refl c.if-store.true

pub returns-in-None-clause-acts : goal.returns-in-None-clause-acts
returns-in-None-clause-acts g c = fetch_none g.D.Disk.state c.args.store.now c.args.cursor c.if-store.false
    (none_at c.args.cursor c.find_cursor.result (λ x. x.now) c.as_slice.result.now c.args.store.now.cursors.items c.in-None.is c.find_cursor.ensures c.as_slice.ensures.value)

pub returns-then-open-clause-acts : goal.returns-then-open-clause-acts
returns-then-open-clause-acts g c = fetch_over g.D.Disk.state c.args.store.now c.args.cursor c.if-store.false c.in-Some.open.now
    (at_of c.args.cursor c.find_cursor.result c.in-Some.open (λ x. x.now) c.as_slice.result.now c.args.store.now.cursors.items c.in-Some.is c.find_cursor.ensures c.as_slice.ensures.value) c.if-open.true

pub returns-then-store-clause-reads : goal.returns-then-store-clause-reads
returns-then-store-clause-reads g c = reads_shut g.D.Disk.state c.args.store.now c.args.cursor Closed c.if-store.true

pub returns-in-None-clause-reads : goal.returns-in-None-clause-reads
returns-in-None-clause-reads g c = reads_none g.D.Disk.state c.args.store.now c.args.cursor NoCursor
    (none_at c.args.cursor c.find_cursor.result (λ x. x.now) c.as_slice.result.now c.args.store.now.cursors.items c.in-None.is c.find_cursor.ensures c.as_slice.ensures.value)

pub returns-then-open-clause-reads : goal.returns-then-open-clause-reads
returns-then-open-clause-reads g c = reads_over g.D.Disk.state c.args.store.now c.args.cursor c.in-Some.open.now
    (at_of c.args.cursor c.find_cursor.result c.in-Some.open (λ x. x.now) c.as_slice.result.now c.args.store.now.cursors.items c.in-Some.is c.find_cursor.ensures c.as_slice.ensures.value) fetched.End

pub returns-in_err-reached-in-Some-clause-acts : goal.returns-in_err-reached-in-Some-clause-acts
returns-in_err-reached-in-Some-clause-acts g c honest s stands =
    let old = c.args.store.now in
    let at = at_of c.args.cursor c.find_cursor.result c.in-Some.open (λ x. x.now) c.as_slice.result.now old.cursors.items c.in-Some.is c.find_cursor.ensures c.as_slice.ensures.value in
    let leaves = c.in_err-reached-in-Some.ensures.effect.unchanged honest in
    let z = seen g.D.Disk.state old c.args.cursor c.if-store.false s stands c.in-Some.open.now at c.if-open.false c.next_rows.new.vault leaves in
    refused (λ (r : Result Fetched Refusal). ActsFrom g.D.Disk.state old (record old { vault = c.next_rows.new.vault }) (fetch c.args.cursor) (answered fetched_view r) s) c.from_residual.result c.in_err-reached-in-Some.field-0.0 c.from_residual.ensures.1
    (refused_so g.D.Disk.state old c.args.cursor c.if-store.false s stands c.in-Some.open.now at c.if-open.false c.next_rows.new.vault leaves c.in_err-reached-in-Some.field-0.0
    (c.in_err-reached-in-Some.ensures.only honest s.table.keys s.next_group (c.args.cursor, z.0) z.2))

pub returns-in_err-reached-in-Some-clause-reads : goal.returns-in_err-reached-in-Some-clause-reads
returns-in_err-reached-in-Some-clause-reads g c =
    let old = c.args.store.now in
    let at = at_of c.args.cursor c.find_cursor.result c.in-Some.open (λ x. x.now) c.as_slice.result.now old.cursors.items c.in-Some.is c.find_cursor.ensures c.as_slice.ensures.value in
    refused (λ (r : Result Fetched Refusal). FetchReads g.D.Disk.state old (record old { vault = c.next_rows.new.vault }) c.args.cursor r) c.from_residual.result c.in_err-reached-in-Some.field-0.0 c.from_residual.ensures.1
    (reads_stopped g.D.Disk.state old c.args.cursor c.in-Some.open.now at c.if-store.false c.next_rows.new.vault c.in_err-reached-in-Some.ensures.unheld c.in_err-reached-in-Some.field-0.0 c.in_err-reached-in-Some.ensures.goes)

pub returns-in_err-fetched-in-Some-clause-acts : goal.returns-in_err-fetched-in-Some-clause-acts
returns-in_err-fetched-in-Some-clause-acts g c honest s stands =
    let old = c.args.store.now in
    let at = at_of c.args.cursor c.find_cursor.result c.in-Some.open (λ x. x.now) c.as_slice.result.now old.cursors.items c.in-Some.is c.find_cursor.ensures c.as_slice.ensures.value in
    refused (λ (r : Result Fetched Refusal). ActsFrom g.D.Disk.state old (record old { vault = c.next_rows.new.vault }) (fetch c.args.cursor) (answered fetched_view r) s) c.from_residual-in_err-fetched-in-Some.result c.in_err-fetched-in-Some.field-0.0 c.from_residual-in_err-fetched-in-Some.ensures.1
    (memory_so c.in_err-fetched-in-Some.field-0.0 (c.in_err-fetched-in-Some.ensures.which c.in_ok-reached-in-Some.ensures.accepted.0 c.in_ok-reached-in-Some.ensures.accepted.1) (λ e. ActsFrom g.D.Disk.state old (record old { vault = c.next_rows.new.vault }) (fetch c.args.cursor) (answered fetched_view (Err e)) s)
    (poor g.D.Disk.state old c.args.cursor c.if-store.false s stands c.in-Some.open.now at c.if-open.false c.next_rows.new.vault (c.in_ok-reached-in-Some.ensures.effect.unchanged honest)))

pub returns-in_err-fetched-in-Some-clause-reads : goal.returns-in_err-fetched-in-Some-clause-reads
returns-in_err-fetched-in-Some-clause-reads g c =
    let old = c.args.store.now in
    let at = at_of c.args.cursor c.find_cursor.result c.in-Some.open (λ x. x.now) c.as_slice.result.now old.cursors.items c.in-Some.is c.find_cursor.ensures c.as_slice.ensures.value in
    refused (λ (r : Result Fetched Refusal). FetchReads g.D.Disk.state old (record old { vault = c.next_rows.new.vault }) c.args.cursor r) c.from_residual-in_err-fetched-in-Some.result c.in_err-fetched-in-Some.field-0.0 c.from_residual-in_err-fetched-in-Some.ensures.1
    (reads_stopped g.D.Disk.state old c.args.cursor c.in-Some.open.now at c.if-store.false c.next_rows.new.vault c.in_ok-reached-in-Some.ensures.unheld c.in_err-fetched-in-Some.field-0.0
    (λ version e. (c.in_ok-reached-in-Some.reached.passed, c.in_ok-reached-in-Some.ensures.goes version e)))

pub returns-in_ok-fetched-in-Some-clause-acts : goal.returns-in_ok-fetched-in-Some-clause-acts
returns-in_ok-fetched-in-Some-clause-acts g c honest s stands =
    let old = c.args.store.now in
    let at = at_of c.args.cursor c.find_cursor.result c.in-Some.open (λ x. x.now) c.as_slice.result.now old.cursors.items c.in-Some.is c.find_cursor.ensures c.as_slice.ensures.value in
    let reached = c.in_ok-reached-in-Some.reached in
    let rows = c.in_ok-reached-in-Some.ensures.accepted in
    went g.D.Disk.state old c.args.cursor c.if-store.false s stands c.in-Some.open.now at c.if-open.false c.next_rows.new.vault (c.in_ok-reached-in-Some.ensures.effect.unchanged honest) reached.passed rows.0
    (λ d z. c.in_ok-reached-in-Some.ensures.stands honest s.table.keys s.next_group d z rows.0 rows.1) c.is_none-ended.result (over_is reached.rows c.is_none-ended.result c.is_none-ended.ensures rows.0 rows.1) _
    (written_back c.args.cursor reached.passed c.is_none-ended.result old.cursors.len old.cursors.items c.as_mut_slice.result.now c.move_cursor.new.cursors _ old.cursors.ok.0 c.as_mut_slice.ensures.value c.move_cursor.ensures)
    (fetched_view c.in_ok-fetched-in-Some.fetched) (c.in_ok-fetched-in-Some.ensures.made rows.0 rows.1 ∙ ap (λ (ps : List ℕ). next_answer (batches_with ps rows.0)) c.as_slice-in-Some.ensures.value)

pub returns-in_ok-fetched-in-Some-clause-reads : goal.returns-in_ok-fetched-in-Some-clause-reads
returns-in_ok-fetched-in-Some-clause-reads g c =
    let old = c.args.store.now in
    let at = at_of c.args.cursor c.find_cursor.result c.in-Some.open (λ x. x.now) c.as_slice.result.now old.cursors.items c.in-Some.is c.find_cursor.ensures c.as_slice.ensures.value in
    reads_went g.D.Disk.state old c.args.cursor c.in-Some.open.now at c.if-store.false c.next_rows.new.vault c.in_ok-reached-in-Some.ensures.unheld _ c.in_ok-reached-in-Some.reached.passed c.is_none-ended.result c.in_ok-fetched-in-Some.fetched
    (written_back c.args.cursor c.in_ok-reached-in-Some.reached.passed c.is_none-ended.result old.cursors.len old.cursors.items c.as_mut_slice.result.now c.move_cursor.new.cursors _ old.cursors.ok.0 c.as_mut_slice.ensures.value c.move_cursor.ensures) c.in_ok-reached-in-Some.ensures.goes

pub returns-then-store-clause-leaves : goal.returns-then-store-clause-leaves
returns-then-store-clause-leaves g c = same g.D.Disk.state c.args.store.now

pub returns-in-None-clause-leaves : goal.returns-in-None-clause-leaves
returns-in-None-clause-leaves g c = same g.D.Disk.state c.args.store.now

pub returns-then-open-clause-leaves : goal.returns-then-open-clause-leaves
returns-then-open-clause-leaves g c = same g.D.Disk.state c.args.store.now

pub returns-in_err-reached-in-Some-clause-leaves : goal.returns-in_err-reached-in-Some-clause-leaves
returns-in_err-reached-in-Some-clause-leaves g c = only_read g.D.Disk.state c.args.store.now (record c.args.store.now { vault = c.next_rows.new.vault }) c.in_err-reached-in-Some.ensures.effect.unchanged refl

pub returns-in_err-fetched-in-Some-clause-leaves : goal.returns-in_err-fetched-in-Some-clause-leaves
returns-in_err-fetched-in-Some-clause-leaves g c = only_read g.D.Disk.state c.args.store.now (record c.args.store.now { vault = c.next_rows.new.vault }) c.in_ok-reached-in-Some.ensures.effect.unchanged refl

pub returns-in_ok-fetched-in-Some-clause-leaves : goal.returns-in_ok-fetched-in-Some-clause-leaves
returns-in_ok-fetched-in-Some-clause-leaves g c = only_read g.D.Disk.state c.args.store.now _ c.in_ok-reached-in-Some.ensures.effect.unchanged refl

pub returns-then-open-clause-absent : goal.returns-then-open-clause-absent
returns-then-open-clause-absent g c =
    absent_over g.D.Disk.state c.args.store.now c.args.cursor c.in-Some.open.now
    (at_of c.args.cursor c.find_cursor.result c.in-Some.open (λ x. x.now) c.as_slice.result.now c.args.store.now.cursors.items c.in-Some.is c.find_cursor.ensures c.as_slice.ensures.value) rows_fetched fetched.End c.if-open.true

pub returns-in_err-reached-in-Some-clause-absent : goal.returns-in_err-reached-in-Some-clause-absent
returns-in_err-reached-in-Some-clause-absent g c =
    refused (λ (r : Result (Fetched) Refusal). FetchesAbsent g.D.Disk.state rows_fetched c.args.store.now (record c.args.store.now { vault = c.next_rows.new.vault }) c.args.cursor r) c.from_residual.result c.in_err-reached-in-Some.field-0.0 c.from_residual.ensures.1 tt

pub returns-in_err-fetched-in-Some-clause-absent : goal.returns-in_err-fetched-in-Some-clause-absent
returns-in_err-fetched-in-Some-clause-absent g c =
    refused (λ (r : Result (Fetched) Refusal). FetchesAbsent g.D.Disk.state rows_fetched c.args.store.now (record c.args.store.now { vault = c.next_rows.new.vault }) c.args.cursor r) c.from_residual-in_err-fetched-in-Some.result c.in_err-fetched-in-Some.field-0.0 c.from_residual-in_err-fetched-in-Some.ensures.1 tt

pub returns-in_ok-fetched-in-Some-clause-absent : goal.returns-in_ok-fetched-in-Some-clause-absent
returns-in_ok-fetched-in-Some-clause-absent g c =
    let old = c.args.store.now in
    let at = at_of c.args.cursor c.find_cursor.result c.in-Some.open (λ x. x.now) c.as_slice.result.now old.cursors.items c.in-Some.is c.find_cursor.ensures c.as_slice.ensures.value in
    let reached = c.in_ok-reached-in-Some.reached in
    let rows = c.in_ok-reached-in-Some.ensures.accepted in
    absent_went g.D.Disk.state old c.args.cursor c.in-Some.open.now at rows_fetched c.next_rows.new.vault (with_items old.cursors c.move_cursor.new.cursors) reached.passed c.is_none-ended.result c.in_ok-fetched-in-Some.fetched reached.rows
    (written_back c.args.cursor reached.passed c.is_none-ended.result old.cursors.len old.cursors.items c.as_mut_slice.result.now c.move_cursor.new.cursors _ old.cursors.ok.0 c.as_mut_slice.ensures.value c.move_cursor.ensures)
    (fetched_same c.as_slice-in-Some.result.now reached.rows c.in_ok-fetched-in-Some.fetched rows.0 rows.1 (c.in_ok-fetched-in-Some.ensures.made rows.0 rows.1))
    c.in_ok-reached-in-Some.ensures.absent
