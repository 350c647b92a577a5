use Rattle.std.proofs.Common.{List, Ok, ap, subst}
use Rattle.std.specs.Io.KnownBytes.{Appends}
use Rattle.schema.specs.Values.{ValueTrees}
use Rattle.filter.specs.Terms.{terms_view}
use Rattle.table.specs.Calls.{accepted, refused}
use Rattle.table.specs.State.{State}
use Rattle.table.specs.Table.{Table}
use Rattle.table.specs.Views.{names_view, answered}
use Rattle.answers.specs.Querying.{row_lines}
use Rattle.answers.specs.QueryFile.{wanted_fields, first_of}
use Rattle.answers.specs.inner.Fetched.{FetchesUpTo, WhereFitting, AreEnough}
use Rattle.answers.proofs.Batched.{asked, closed, of_rows}
use Rattle.answers.proofs.OkThen.{ok_always, err_then}
use Rattle.answers.proofs.Selected.{query_fits}
use Rattle.answers.proofs.querying.print_selected.Goals as goal

pub returns-in_err-cursor-clause-prints : goal.returns-in_err-cursor-clause-prints
returns-in_err-cursor-clause-prints g c = λ honest s stands.
    let e = c.in_err-cursor.field-0.0 in
    record {
      reads = asked g.D.Disk.state c.args.store.now c.query.new.self (terms_view c.args.terms.now) (names_view c.args.columns) s (refused e) (c.in_err-cursor.ensures.acts honest s stands);
      printed = err_then _ c.from_residual.result e c.from_residual.ensures.1;
    }

pub returns-in_err-printed-clause-prints : goal.returns-in_err-printed-clause-prints
returns-in_err-printed-clause-prints g c = λ honest s stands.
    let acts = c.in_ok-cursor.ensures.acts honest s stands in
    let still = c.in_ok-cursor.ensures.honest.0 honest in
    let left = c.print_columns_of-printed.ensures.prints still acts.after acts.stands in
    let closing = c.close-closed.ensures.acts (c.print_columns_of-printed.ensures.honest still) left.last left.stands in
    let e = c.in_err-printed.field-0.0 in
    record {
      reads = closed g.D.Disk.state c.args.store.now c.query.new.self (terms_view c.args.terms.now) (names_view c.args.columns) s c.in_ok-cursor.cursor acts c.print_columns_of-printed.new.store c.close-closed.new.self _ _
          c.print_columns_of-printed.result left (answered (λ _. accepted) c.close-closed.result) closing;
      printed = err_then _ c.from_residual-in_err-printed.result e c.from_residual-in_err-printed.ensures.1;
    }

pub returns-clause-prints : goal.returns-clause-prints
returns-clause-prints g c = λ honest s stands.
    let state = g.D.Disk.state in
    let terms = terms_view c.args.terms.now in
    let columns = names_view c.args.columns in
    let texts = c.args.texts in
    let limit = c.args.limit in
    let n = c.in_ok-cursor.cursor in
    let acts = c.in_ok-cursor.ensures.acts honest s stands in
    let still = c.in_ok-cursor.ensures.honest.0 honest in
    let left = c.in_ok-printed.ensures.prints still acts.after acts.stands in
    let closing = c.close-closed.ensures.acts (c.in_ok-printed.ensures.honest still) left.last left.stands in
    let end = c.print_columns_of-printed.new.store in
    let before = g.W.Write.contents c.args.out.now in
    let after = g.W.Write.contents c.print_columns_of-printed.new.out in
    let fs = wanted_fields columns s.table.schema in
    let all = subst (λ (t : Table). FetchesUpTo n
    (WhereFitting (wanted_fields columns t.schema) (λ (rows : List ValueTrees). Appends before after (row_lines texts (wanted_fields columns t.schema) (first_of limit rows)))) (WhereFitting (wanted_fields columns t.schema) (AreEnough limit))
    left.calls left.answers) (ap (λ (u : State). u.table) acts.happens.1.1) left.all in
    record {
      reads = closed state c.args.store.now c.query.new.self terms columns s n acts end c.close-closed.new.self _ _ (Ok tt) left (answered (λ _. accepted) c.close-closed.result) closing;
      printed = ok_always c.close-closed.result
          (of_rows state c.args.store.now c.query.new.self terms columns s n acts c.queries_give_all.ensures.beginning c.queries_give_all.ensures.finished stands fs limit (λ (rows : List ValueTrees). Appends before after (row_lines texts fs rows)) end left.calls
          left.answers left.last left.acts all (query_fits terms columns s.table stands.shows.valid));
    }
