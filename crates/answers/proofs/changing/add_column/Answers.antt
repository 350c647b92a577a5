use Rattle.std.proofs.Common.{List, refl, subst}
use Rattle.vault.proofs.Chained.{refused}
use Rattle.schema.specs.Elements.{Element}
use Rattle.schema.specs.Listed.{listings}
use Rattle.table.specs.Calls.{add_column, done}
use Rattle.table.specs.Views.{answered}
use Rattle.table_state.specs.Promises.{ActsFrom}
use Rattle.jsonrows.specs.SchemaJson.{IsRefusedSchema}
use Rattle.answers.specs.Making.{MakesFrom, made, not_made, AsksColumn}
use Rattle.answers.proofs.changing.add_column.Goals as goal

pub returns-in_err-schema : goal.returns-in_err-schema
returns-in_err-schema g c = record {
  makes = λ honest s stands.
      let old = c.args.store.now in
      let e = c.in_err-schema.field-0.0 in
      refused (λ r. MakesFrom g.D.Disk.state old old (AsksColumn c.args.field.now) (λ fs. IsRefusedSchema c.args.field.now) r s) c.from_residual.result e c.from_residual.ensures.1
      (not_made e c.in_err-schema.ensures.which refl refl);
}

pub returns : goal.returns
returns g c = record {
  makes = λ honest s stands.
      let columns = c.in_ok-schema.schema in
      made (add_column (listings columns)) (columns, c.in_ok-schema.ensures.stands, refl)
      (subst (λ (es : List Element). ActsFrom g.D.Disk.state c.args.store.now c.add_column.new.self (add_column es) (answered done c.add_column.result) s) c.without_root.ensures (c.add_column.ensures.acts honest s stands));
}
