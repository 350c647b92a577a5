use Rattle.std.proofs.Common.{◌≡◌, List, Vec, Global, Some, option_map, refl, subst}
use Rattle.std.specs.Io.KnownBytes.{Appends}
use Rattle.vault.proofs.Chained.{refused as passed}
use Rattle.filter.specs.Terms.{terms_view}
use Rattle.filter.specs.declared.term.Term.{Term}
use Rattle.table.specs.Views.{names_view}
use Rattle.answers.specs.First.{first_lines}
use Rattle.answers.specs.Querying.{ReadsFrom, read, not_read}
use Rattle.answers.specs.inner.Batches.{PrintsSelected}
use Rattle.answers.proofs.first_rows.print_first_rows.Goals as goal

pub returns-in_err-terms : goal.returns-in_err-terms
returns-in_err-terms g c = record {
  prints = λ honest s stands.
      let old = c.args.store.now in
      let held = g.W.Write.contents c.args.out.now in
      let e = c.in_err-terms.field-0.0 in
      passed (λ r. ReadsFrom g.D.Disk.state c.args.texts old old (option_map (λ t. t.now) c.args.filter) (λ terms. Appends held held (first_lines c.args.texts c.args.limit terms (names_view c.args.columns) s.table)) (held ≡ held) r s) c.from_residual.result e c.from_residual.ensures.1
      (not_read e (c.in_err-terms.ensures.which s stands) refl refl refl);
}

pub returns : goal.returns
returns g c = record {
  prints = λ honest s stands.
      let state = g.D.Disk.state in
      let contents = g.W.Write.contents in
      let terms = terms_view c.in_ok-terms.terms.items in
      let selected = c.print_selected.ensures.prints honest s stands in
      let told = subst (λ (ts : List (Vec Term Global)). PrintsSelected state c.args.texts c.args.store.now c.print_selected.new.store (terms_view ts) (names_view c.args.columns) (Some c.args.limit) (contents c.args.out.now)
      (contents c.print_selected.new.out) c.print_selected.result s) c.as_slice.ensures.value selected in
      read terms (c.in_ok-terms.ensures.stands s stands) told.reads told.printed;
}
