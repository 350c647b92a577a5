use Rattle.std.proofs.Common.{◌∙◌, refl, sym, length}
use Rattle.std.proofs.lemmas.Bool.{eqb-true}
use Rattle.std.proofs.lemmas.List.{nil_from_length}
use Rattle.vault.proofs.Chained.{refused}
use Rattle.answers.specs.Making.{RewritesFrom, none_named, not_begun, begun}
use Rattle.answers.proofs.changing.rewrite_groups.Goals as goal

pub returns-then-is_empty : goal.returns-then-is_empty
returns-then-is_empty g c = record {
  rewrites = λ honest s stands.
      none_named (nil_from_length c.args.numbers.now (eqb-true (length c.args.numbers.now) 0 (sym c.is_empty.ensures ∙ c.if-is_empty.true))) refl refl;
}

pub returns-in_err-job : goal.returns-in_err-job
returns-in_err-job g c = record {
  rewrites = λ honest s stands.
      let e = c.in_err-job.field-0.0 in
      refused (λ r. RewritesFrom g.D.Disk.state c.args.store.now c.begin_rewrite.new.self c.args.numbers.now r s) c.from_residual.result e c.from_residual.ensures.1
      (not_begun e refl (c.in_err-job.ensures.acts honest s stands));
}

pub returns : goal.returns
returns g c = record {
  rewrites = λ honest s stands.
      let first = c.in_ok-job.ensures.acts honest s stands in
      begun c.begin_rewrite.new.self c.in_ok-job.job first (c.commit.ensures.acts (c.in_ok-job.ensures.honest.0 honest) first.after first.stands);
}
