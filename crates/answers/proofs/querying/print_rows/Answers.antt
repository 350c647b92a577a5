use Rattle.std.proofs.Common.{◌≡◌, List, None, Vec, Global, option_map, refl, subst}
use Rattle.std.specs.Io.KnownBytes.{Appends}
use Rattle.vault.proofs.Chained.{refused as passed}
use Rattle.filter.specs.Terms.{terms_view}
use Rattle.filter.specs.declared.term.Term.{Term}
use Rattle.table.specs.Views.{names_view}
use Rattle.table_state.specs.declared.standing.Core.{Core}
use Rattle.answers.specs.Querying.{ReadsFrom, read, not_read, query_lines}
use Rattle.answers.specs.inner.Batches.{PrintsSelected}
use Rattle.answers.proofs.querying.print_rows.Goals as goal

pub returns-in_err-terms-clause-prints : goal.returns-in_err-terms-clause-prints
returns-in_err-terms-clause-prints g c = λ honest s stands.
    let old = c.args.store.now in
    let held = g.W.Write.contents c.args.out.now in
    let e = c.in_err-terms.field-0.0 in
    passed (λ r. ReadsFrom g.D.Disk.state c.args.texts old old (option_map (λ t. t.now) c.args.filter) (λ terms. Appends held held (query_lines c.args.texts terms (names_view c.args.columns) s.table)) (held ≡ held) r s) c.from_residual.result e c.from_residual.ensures.1
    (not_read e (c.in_err-terms.ensures.which s stands) refl refl refl)

pub returns-clause-prints : goal.returns-clause-prints
returns-clause-prints g c = λ honest s stands.
    let state = g.D.Disk.state in
    let contents = g.W.Write.contents in
    let terms = terms_view c.in_ok-terms.terms.items in
    let columns = names_view c.args.columns in
    let same = c.printing_of-progress.ensures.same in
    let selected = c.print_selected-printed.ensures.prints (rw same honest) s (rw same stands) in
    let of_old = subst (λ (x : Core g.row.D.Denot). PrintsSelected state c.args.texts x c.print_selected-printed.new.store (terms_view c.as_slice-2.result.now) columns None (contents c.args.out.now) (contents c.print_selected-printed.new.out) c.print_selected-printed.result s) same selected in
    let told = subst (λ (ts : List (Vec Term Global)). PrintsSelected state c.args.texts c.args.store.now c.print_selected-printed.new.store (terms_view ts) columns None (contents c.args.out.now) (contents c.print_selected-printed.new.out) c.print_selected-printed.result s) c.as_slice-2.ensures.value of_old in
    read terms (c.in_ok-terms.ensures.stands s stands) told.reads told.printed
