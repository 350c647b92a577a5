use Rattle.std.proofs.Common.{[], ◌∙◌, sym, subst}
use Rattle.schema.specs.Shape.{Fields}
use Rattle.schema.specs.Fits.{RowsFit}
use Rattle.filter.specs.Terms.{terms_view}
use Rattle.table.specs.Views.{names_view}
use Rattle.answers.specs.QueryFile.{query_rows, first_of}
use Rattle.answers.proofs.Batched.{nothing_read}
use Rattle.answers.proofs.FilesOfQuery.{got}
use Rattle.answers.proofs.OkThen.{ok_of, err_then}
use Rattle.answers.proofs.writing_query.give_files.Goals as goal

pub returns-in_err-writer-clause-gives : goal.returns-in_err-writer-clause-gives
returns-in_err-writer-clause-gives g c = λ honest s stands. record {
  reads = nothing_read g.D.Disk.state c.args.store.now s;
  got = err_then _ c.from_residual.result c.in_err-writer.field-0.0 c.from_residual.ensures.1;
}

pub returns-in_err-write_selected-clause-gives : goal.returns-in_err-write_selected-clause-gives
returns-in_err-write_selected-clause-gives g c = λ honest s stands.
    let wrote = c.write_selected.ensures.writes honest s stands in
    record { reads = wrote.reads; got = err_then _ c.from_residual-in_err-write_selected.result c.in_err-write_selected.field-0.0 c.from_residual-in_err-write_selected.ensures.1 }

pub returns-in_err-last-clause-gives : goal.returns-in_err-last-clause-gives
returns-in_err-last-clause-gives g c = λ honest s stands.
    let wrote = c.in_ok-write_selected.ensures.writes honest s stands in
    record { reads = wrote.reads; got = err_then _ c.from_residual-in_err-last.result c.in_err-last.field-0.0 c.from_residual-in_err-last.ensures.1 }

pub returns-clause-gives : goal.returns-clause-gives
returns-clause-gives g c = λ honest s stands.
    let taken_of = g.S.FileSink.taken in
    let wrote = c.in_ok-write_selected.ensures.writes honest s stands in
    let all = query_rows (terms_view c.args.terms.now) (names_view c.args.columns) s.table in
    let rs = first_of c.args.limit all in
    let was = taken_of c.args.sink.now in
    let to = taken_of c.write_selected.new.sink in
    let is = taken_of c.take.new.self in
    let writer = c.write_selected.new.writer in
    let alike = c.write_selected.ensures.alike in
    let of = c.in_ok-writer.ensures.of in
    record {
      reads = wrote.reads;
      got = ok_of c.take.result c.take.ensures.takes (λ taken fit.
          let has = wrote.written (subst (λ (f : Fields). RowsFit f all) (sym of.0) fit) was [] (c.in_ok-writer.ensures.begins was) in
          got writer c.args.options.now c.args.schema.now rs c.args.most was to is c.in_ok-last.last.items (alike.0 ∙ of.0) (alike.1 ∙ of.1) (alike.2 ∙ of.2) (c.in_ok-last.ensures.ends was to rs has) taken);
    }
