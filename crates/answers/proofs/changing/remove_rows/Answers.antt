use Rattle.std.proofs.Common.{ℕ, List, Vec, Global, refl, subst}
use Rattle.vault.proofs.Chained.{refused}
use Rattle.schema.specs.Shape.{Fields}
use Rattle.schema.specs.Stripe.{leaves_of}
use Rattle.filter.specs.Terms.{terms_view}
use Rattle.filter.specs.declared.term.Term.{Term}
use Rattle.table.specs.Calls.{remove, done}
use Rattle.table.specs.Views.{answered}
use Rattle.table_state.specs.Promises.{ActsFrom}
use Rattle.jsonrows.specs.Filters.{IsFilterTextAs, IsRefusedFilterAs}
use Rattle.answers.specs.Making.{MakesFrom, made, not_made, AsksRemove}
use Rattle.answers.proofs.changing.remove_rows.Goals as goal

pub returns-in_err-terms : goal.returns-in_err-terms
returns-in_err-terms g c = record {
  makes = λ honest s stands.
      let old = c.args.store.now in
      let is = c.schema.ensures s stands in
      let e = c.in_err-terms.field-0.0 in
      refused (λ r. MakesFrom g.D.Disk.state old old (AsksRemove c.args.texts c.args.filter.now) (λ fs. IsRefusedFilterAs c.args.texts (leaves_of fs) c.args.filter.now) r s) c.from_residual.result e c.from_residual.ensures.1
      (not_made e (subst (λ (t : Fields). IsRefusedFilterAs c.args.texts (leaves_of t) c.args.filter.now e) is c.in_err-terms.ensures.which) refl refl);
}

pub returns : goal.returns
returns g c = record {
  makes = λ honest s stands.
      let is = c.schema.ensures s stands in
      let terms = terms_view c.in_ok-terms.terms.items in
      made (remove terms) (terms, subst (λ (t : Fields). IsFilterTextAs c.args.texts (leaves_of t) c.args.filter.now terms) is c.in_ok-terms.ensures.stands, refl)
      (subst (λ (ts : List (Vec Term Global)). ActsFrom g.D.Disk.state c.args.store.now c.remove.new.self (remove (terms_view ts)) (answered {T = ℕ} (λ x. done x) c.remove.result) s) c.as_slice.ensures.value (c.remove.ensures.acts honest s stands));
}
