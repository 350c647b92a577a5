use Rattle.std.proofs.Common.{Ok}
use Rattle.filter.specs.Terms.{terms_view}
use Rattle.table.specs.Calls.{accepted, refused}
use Rattle.table.specs.Views.{names_view, answered}
use Rattle.answers.specs.inner.Parts.{TakesRows}
use Rattle.answers.proofs.Batched.{asked, closed, of_rows}
use Rattle.answers.proofs.OkThen.{ok_always, err_then}
use Rattle.answers.proofs.writing_query.write_selected.Goals as goal

pub returns-in_err-cursor-clause-writes : goal.returns-in_err-cursor-clause-writes
returns-in_err-cursor-clause-writes g c = λ honest s stands.
    let e = c.in_err-cursor.field-0.0 in
    record {
      reads = asked g.D.Disk.state c.args.store.now c.query.new.self (terms_view c.args.terms.now) (names_view c.args.columns) s (refused e) (c.in_err-cursor.ensures.acts honest s stands);
      written = err_then _ c.from_residual.result e c.from_residual.ensures.1;
    }

pub returns-in_err-given-clause-writes : goal.returns-in_err-given-clause-writes
returns-in_err-given-clause-writes g c = λ honest s stands.
    let acts = c.in_ok-cursor.ensures.acts honest s stands in
    let still = c.in_ok-cursor.ensures.honest.0 honest in
    let left = c.write_batches-given.ensures.writes still acts.after acts.stands in
    let closing = c.close-closed.ensures.acts (c.write_batches-given.ensures.honest still) left.last left.stands in
    let e = c.in_err-given.field-0.0 in
    record {
      reads = closed g.D.Disk.state c.args.store.now c.query.new.self (terms_view c.args.terms.now) (names_view c.args.columns) s c.in_ok-cursor.cursor acts c.write_batches-given.new.store c.close-closed.new.self _ _ c.write_batches-given.result left
          (answered (λ _. accepted) c.close-closed.result) closing;
      written = err_then _ c.from_residual-in_err-given.result e c.from_residual-in_err-given.ensures.1;
    }

pub returns-clause-writes : goal.returns-clause-writes
returns-clause-writes g c = λ honest s stands.
    let state = g.D.Disk.state in
    let limit = c.args.limit in
    let terms = terms_view c.args.terms.now in
    let columns = names_view c.args.columns in
    let from = c.args.writer.now in
    let to = c.write_batches-given.new.writer in
    let was = g.S.FileSink.taken c.args.sink.now in
    let is = g.S.FileSink.taken c.write_batches-given.new.sink in
    let n = c.in_ok-cursor.cursor in
    let acts = c.in_ok-cursor.ensures.acts honest s stands in
    let still = c.in_ok-cursor.ensures.honest.0 honest in
    let left = c.in_ok-given.ensures.writes still acts.after acts.stands in
    let closing = c.close-closed.ensures.acts (c.in_ok-given.ensures.honest still) left.last left.stands in
    let end = c.write_batches-given.new.store in
    record {
      reads = closed state c.args.store.now c.query.new.self terms columns s n acts end c.close-closed.new.self _ _ (Ok tt) left (answered (λ _. accepted) c.close-closed.result) closing;
      written = ok_always c.close-closed.result
          (of_rows state c.args.store.now c.query.new.self terms columns s n acts c.queries_give_all.ensures.beginning c.queries_give_all.ensures.finished stands from.schema.now limit (TakesRows from to was is) end left.calls left.answers left.last left.acts
          left.all);
    }
