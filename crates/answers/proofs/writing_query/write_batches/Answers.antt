use Rattle.std.proofs.Common.{◌∙◌, List, Ok, refl, ap, sym, subst}
use Rattle.schema.specs.Shape.{Fields}
use Rattle.schema.specs.Fits.{RowsFit}
use Rattle.schema.specs.Values.{ValueTrees}
use Rattle.table.specs.Cursors.{Batch}
use Rattle.table.specs.Calls.{ended, batch, refused}
use Rattle.answers.specs.QueryFile.{first_of}
use Rattle.answers.specs.inner.Fetched.{rows_of_each, WhereFitting, AreEnough, HoldsOfFirst, fewer}
use Rattle.answers.specs.inner.Parts.{TakesRows}
use Rattle.answers.proofs.Batched.{rows_fetched, none_fetched_as, begins, goes_on, ends, all_fetched, enough}
use Rattle.answers.proofs.FirstOf.{holds_none, holds_more, fitting_more, is_enough, as_many_first}
use Rattle.answers.proofs.FilesOfQuery.{none_taken, taken_more}
use Rattle.answers.proofs.OkThen.{err_then}
use Rattle.answers.proofs.PartsGiven.{alike_self, alike_then}
use Rattle.answers.proofs.writing_query.write_batches.Goals as goal

pub batches-init : goal.batches-init
batches-init g c = record {
  writes = λ honest s stands.
      let writer = c.args.writer.now in
      let was = g.S.FileSink.taken c.args.sink.now in
      let Has = TakesRows writer writer was was in
      begins g.D.Disk.state c.args.store.now c.args.cursor (WhereFitting writer.schema.now (HoldsOfFirst c.args.limit c.args.limit Has)) s stands (λ fit. holds_none c.args.limit Has (none_taken writer was));
  honest = λ honest. honest;
  alike = alike_self c.args.writer.now;
  quiet = λ hidden. refl;
  same = refl;
}

pub returns-then-is_used_up-clause-writes : goal.returns-then-is_used_up-clause-writes
returns-then-is_used_up-clause-writes g c = λ honest s stands.
    let at = c.batches in
    let limit = c.args.limit in
    let from = c.args.writer.now in
    let fs = from.schema.now in
    let Has = TakesRows from at.writer (g.S.FileSink.taken c.args.sink.now) (g.S.FileSink.taken at.sink) in
    enough g.D.Disk.state c.args.store.now at.store c.args.cursor (WhereFitting fs (HoldsOfFirst limit at.left Has)) (WhereFitting fs (λ (rows : List ValueTrees). Has (first_of limit rows))) (WhereFitting fs (AreEnough limit)) s
    (at.invariant.writes honest s stands) (λ (bs : List Batch) done fit. (done fit).0) (λ (bs : List Batch) done fit. is_enough limit at.left (rows_of_each bs) (c.is_used_up.ensures c.if-is_used_up.true) (done fit).1)

pub returns-in-None-clause-writes : goal.returns-in-None-clause-writes
returns-in-None-clause-writes g c = λ honest s stands.
    let state = g.D.Disk.state in
    let at = c.batches in
    let limit = c.args.limit in
    let from = c.args.writer.now in
    let fs = from.schema.now in
    let Has = TakesRows from at.writer (g.S.FileSink.taken c.args.sink.now) (g.S.FileSink.taken at.sink) in
    let Done = WhereFitting fs (HoldsOfFirst limit at.left Has) in
    let Again = WhereFitting fs (λ (rows : List ValueTrees). Has (first_of limit rows)) in
    let Enough = WhereFitting fs (AreEnough limit) in
    let has = at.invariant.writes honest s stands in
    let over = c.in_ok-batch.ensures.acts ended (none_fetched_as c.in_ok-batch.field-0 c.in-None.is) (at.invariant.honest honest) has.last has.stands in
    ends state c.args.store.now at.store c.fetch_rows.new.self c.args.cursor Done Again Enough (Ok tt) s has ended over
    (all_fetched state c.args.store.now at.store c.args.cursor Done Again Enough s has (λ (bs : List Batch) done fit. (done fit).0))

pub batches-preserved : goal.batches-preserved
batches-preserved g c = record {
  writes = λ honest s stands.
      let taken = g.S.FileSink.taken in
      let at = c.batches in
      let limit = c.args.limit in
      let from = c.args.writer.now in
      let fs = from.schema.now in
      let mid = at.writer in
      let new = c.write_rows.new.writer in
      let was = taken c.args.sink.now in
      let so = taken at.sink in
      let is = taken c.write_rows.new.sink in
      let count = c.taken_of-count.result in
      let Has = TakesRows from mid was so in
      let Again = TakesRows from new was is in
      let has = at.invariant.writes honest s stands in
      let f = c.in-Some.batch in
      let shown = rows_fetched c.in_ok-batch.field-0 f c.in-Some.is c.in_ok-batch.ensures.shown in
      let b : Batch = record { places = f.places.items; rows = shown.0 } in
      let given = c.in_ok-batch.ensures.acts (batch b) shown.2 (at.invariant.honest honest) has.last has.stands in
      let stood = c.in_ok-rows-in-Some.ensures.stands b.rows shown.1 in
      let many = c.taken_of-count.ensures b.rows (c.selected_count.ensures b.rows shown.1) in
      goes_on g.D.Disk.state c.args.store.now at.store c.fetch_rows.new.self c.args.cursor (WhereFitting fs (HoldsOfFirst limit at.left Has)) (WhereFitting fs (HoldsOfFirst limit c.fewer-left.result Again)) s has b given
      (fitting_more fs (HoldsOfFirst limit at.left Has) (HoldsOfFirst limit c.fewer-left.result Again) b (λ rows done fit.
      let one = c.in_ok-write_rows-in-Some.ensures.takes b.rows stood (subst (λ (f : Fields). RowsFit f b.rows) (sym at.invariant.alike.0) fit) in
      let first = subst (TakesRows mid new so is) (as_many_first at.left b.rows count many) one in
      holds_more limit at.left c.fewer-left.result Has Again rows b.rows done (λ xs so_far. taken_more from mid new was so is xs (first_of at.left b.rows) so_far first) (c.fewer-left.ensures ∙ ap (fewer at.left) many)));
  honest = λ honest. c.in_ok-batch.ensures.honest.0 (c.batches.invariant.honest honest);
  alike = alike_then c.args.writer.now c.batches.writer c.write_rows.new.writer c.batches.invariant.alike c.write_rows.ensures.alike;
  quiet = λ hidden. c.count_rows.ensures.quiet (c.batches.invariant.same ∙ hidden) ∙ c.batches.invariant.quiet hidden;
  same = c.count_rows.ensures.same ∙ c.batches.invariant.same;
}

pub returns-in_err-batch-clause-writes : goal.returns-in_err-batch-clause-writes
returns-in_err-batch-clause-writes g c = λ honest s stands.
    let at = c.batches in
    let has = at.invariant.writes honest s stands in
    let e = c.in_err-batch.field-0.0 in
    ends g.D.Disk.state c.args.store.now at.store c.fetch_rows.new.self c.args.cursor _ _ _ c.from_residual.result s has (refused e) (c.in_err-batch.ensures.acts (refused e) refl (at.invariant.honest honest) has.last has.stands)
    (err_then _ c.from_residual.result e c.from_residual.ensures.1)

pub returns-in_err-rows-in-Some-clause-writes : goal.returns-in_err-rows-in-Some-clause-writes
returns-in_err-rows-in-Some-clause-writes g c = λ honest s stands.
    let at = c.batches in
    let has = at.invariant.writes honest s stands in
    let f = c.in-Some.batch in
    let shown = rows_fetched c.in_ok-batch.field-0 f c.in-Some.is c.in_ok-batch.ensures.shown in
    let b : Batch = record { places = f.places.items; rows = shown.0 } in
    let given = c.in_ok-batch.ensures.acts (batch b) shown.2 (at.invariant.honest honest) has.last has.stands in
    ends g.D.Disk.state c.args.store.now at.store c.fetch_rows.new.self c.args.cursor _ _ _ c.from_residual-in_err-rows-in-Some.result s has (batch b) given
    (err_then _ c.from_residual-in_err-rows-in-Some.result c.in_err-rows-in-Some.field-0.0 c.from_residual-in_err-rows-in-Some.ensures.1)

pub returns-in_err-write_rows-in-Some-clause-writes : goal.returns-in_err-write_rows-in-Some-clause-writes
returns-in_err-write_rows-in-Some-clause-writes g c = λ honest s stands.
    let at = c.batches in
    let has = at.invariant.writes honest s stands in
    let f = c.in-Some.batch in
    let shown = rows_fetched c.in_ok-batch.field-0 f c.in-Some.is c.in_ok-batch.ensures.shown in
    let b : Batch = record { places = f.places.items; rows = shown.0 } in
    let given = c.in_ok-batch.ensures.acts (batch b) shown.2 (at.invariant.honest honest) has.last has.stands in
    ends g.D.Disk.state c.args.store.now at.store c.fetch_rows.new.self c.args.cursor _ _ _ c.from_residual-in_err-write_rows-in-Some.result s has (batch b) given
    (err_then _ c.from_residual-in_err-write_rows-in-Some.result c.in_err-write_rows-in-Some.field-0.0 c.from_residual-in_err-write_rows-in-Some.ensures.1)
