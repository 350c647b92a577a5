use Rattle.std.proofs.Common.{ℕ, List, Vec, Global, refl, subst}
use Rattle.vault.proofs.Chained.{refused as passed}
use Rattle.schema.specs.Shape.{Fields}
use Rattle.schema.specs.Stripe.{leaves_of}
use Rattle.filter.specs.Terms.{terms_view}
use Rattle.filter.specs.declared.term.Term.{Term}
use Rattle.table.specs.Calls.{count, counted}
use Rattle.table.specs.Views.{answered}
use Rattle.table_state.specs.Promises.{ActsFrom}
use Rattle.jsonrows.specs.Filters.{IsFilterTextAs, IsRefusedFilterAs}
use Rattle.answers.specs.Unless.{CountsFrom, counts_them, no_filter}
use Rattle.answers.proofs.unless.count_rows.Goals as goal

pub returns-in_err-terms-clause-counts : goal.returns-in_err-terms-clause-counts
returns-in_err-terms-clause-counts g c = λ honest s stands.
    let old = c.args.store.now in
    let is = c.schema.ensures s stands in
    let e = c.in_err-terms.field-0.0 in
    passed (λ r. CountsFrom g.D.Disk.state c.args.texts old old c.args.filter.now r s) c.from_residual.result e c.from_residual.ensures.1
    (no_filter e (subst (λ (t : Fields). IsRefusedFilterAs c.args.texts (leaves_of t) c.args.filter.now e) is c.in_err-terms.ensures.which) refl refl)

pub returns-clause-counts : goal.returns-clause-counts
returns-clause-counts g c = λ honest s stands.
    let is = c.schema.ensures s stands in
    let terms = terms_view c.in_ok-terms.terms.items in
    counts_them terms (subst (λ (t : Fields). IsFilterTextAs c.args.texts (leaves_of t) c.args.filter.now terms) is c.in_ok-terms.ensures.stands)
    (subst (λ (ts : List (Vec Term Global)). ActsFrom g.D.Disk.state c.args.store.now c.count.new.self (count (terms_view ts)) (answered {T = ℕ} (λ x. counted x) c.count.result) s) c.as_slice.ensures.value (c.count.ensures.acts honest s stands))
