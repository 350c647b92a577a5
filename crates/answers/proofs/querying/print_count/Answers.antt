use Rattle.std.proofs.Common.{◌≡◌, ℕ, List, Vec, Global, ◌++◌, OnOk, codes, decimal, option_map, refl, subst}
use Rattle.std.specs.Io.KnownBytes.{Appends}
use Rattle.vault.proofs.Chained.{refused as passed}
use Rattle.filter.specs.Terms.{terms_view}
use Rattle.filter.specs.declared.term.Term.{Term}
use Rattle.table.specs.Plans.{row_count}
use Rattle.table.specs.Calls.{count, counted, refused}
use Rattle.table_state.specs.Promises.{ActsFrom}
use Rattle.answers.specs.Querying.{ReadsFrom, read, not_read}
use Rattle.answers.proofs.Counted.{counts, printed_count}
use Rattle.answers.proofs.querying.print_count.Goals as goal

pub returns-in_err-terms : goal.returns-in_err-terms
returns-in_err-terms g c = record {
  prints = λ honest s stands.
      let old = c.args.store.now in
      let held = g.W.Write.contents c.args.out.now in
      let e = c.in_err-terms.field-0.0 in
      passed (λ r. ReadsFrom g.D.Disk.state c.args.texts old old (option_map (λ t. t.now) c.args.filter) (λ terms. Appends held held (decimal (row_count terms s.table) ++ codes "\n")) (held ≡ held) r s) c.from_residual.result e c.from_residual.ensures.1
      (not_read e (c.in_err-terms.ensures.which s stands) refl refl refl);
}

pub returns-in_err-count : goal.returns-in_err-count
returns-in_err-count g c = record {
  prints = λ honest s stands.
      let state = g.D.Disk.state in
      let old = c.args.store.now in
      let held = g.W.Write.contents c.args.out.now in
      let terms = terms_view c.in_ok-terms.terms.items in
      let e = c.in_err-count.field-0.0 in
      let acts = subst (λ (ts : List (Vec Term Global)). ActsFrom state old c.count.new.self (count (terms_view ts)) (refused e) s) c.as_slice.ensures.value (c.in_err-count.ensures.acts honest s stands) in
      read terms (c.in_ok-terms.ensures.stands s stands) (counts state old c.count.new.self terms s (refused e) acts)
      (passed (λ r. OnOk r (Appends held held (decimal (row_count terms s.table) ++ codes "\n"))) c.from_residual-in_err-count.result e c.from_residual-in_err-count.ensures.1 tt);
}

pub returns : goal.returns
returns g c = record {
  prints = λ honest s stands.
      let state = g.D.Disk.state in
      let old = c.args.store.now in
      let before = g.W.Write.contents c.args.out.now in
      let after = g.W.Write.contents c.print_number.new.out in
      let terms = terms_view c.in_ok-terms.terms.items in
      let n = c.in_ok-count.count in
      let acts = subst (λ (ts : List (Vec Term Global)). ActsFrom state old c.count.new.self (count (terms_view ts)) (counted n) s) c.as_slice.ensures.value (c.in_ok-count.ensures.acts honest s stands) in
      read terms (c.in_ok-terms.ensures.stands s stands) (counts state old c.count.new.self terms s (counted n) acts)
      (subst (λ (k : ℕ). OnOk c.print_number.result (Appends before after (decimal k ++ codes "\n"))) (printed_count state old c.count.new.self terms s n acts) c.print_number.ensures.written);
}
