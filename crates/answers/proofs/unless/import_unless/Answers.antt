use Rattle.std.proofs.Common.{refl}
use Rattle.vault.proofs.Chained.{refused as passed}
use Rattle.table.specs.Calls.{import}
use Rattle.answers.specs.Making.{MakesFrom, made}
use Rattle.answers.specs.Unless.{UnlessFrom, not_counted, AsksImport}
use Rattle.answers.proofs.UnlessThere.{then_made, none_made}
use Rattle.answers.proofs.unless.import_unless.Goals as goal

pub returns-in_err-count : goal.returns-in_err-count
returns-in_err-count g c = record {
  makes = λ honest s stands.
      let state = g.D.Disk.state in
      let new = c.count_rows.new.store in
      let e = c.in_err-count.field-0.0 in
      passed (λ r. UnlessFrom state c.args.texts c.args.store.now new c.args.filter.now (λ mid t. MakesFrom state mid new (AsksImport c.args.bytes.now) (λ fs x. ⊥) r t) r s) c.from_residual.result e c.from_residual.ensures.1
      (not_counted e (c.in_err-count.ensures.counts honest s stands) refl);
}

pub returns-then-count-gt0 : goal.returns-then-count-gt0
returns-then-count-gt0 g c = record {
  makes = λ honest s stands.
      none_made g.D.Disk.state c.args.texts c.args.store.now c.count_rows.new.store c.args.filter.now s _ c.in_ok-count.count c.if-count-gt0.true (c.in_ok-count.ensures.counts honest s stands);
}

pub returns : goal.returns
returns g c = record {
  makes = λ honest s stands.
      let state = g.D.Disk.state in
      let new = c.import.new.self in
      then_made state c.args.texts c.args.store.now c.count_rows.new.store c.args.filter.now s new (λ mid t. MakesFrom state mid new (AsksImport c.args.bytes.now) (λ fs x. ⊥) c.import.result t) c.in_ok-count.count c.import.result c.if-count-gt0.false
      (c.in_ok-count.ensures.counts honest s stands) (λ t at. made (import c.args.bytes.now) refl (c.import.ensures.acts (c.in_ok-count.ensures.honest honest) t at));
}
