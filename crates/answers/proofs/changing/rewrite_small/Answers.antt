use Rattle.std.proofs.Common.{ℕ, List, refl, subst}
use Rattle.vault.proofs.Chained.{refused}
use Rattle.table.specs.Calls.{plan_rewrite, planned, refused as refused_answer}
use Rattle.table_state.specs.declared.standing.Core.{Core}
use Rattle.table_state.specs.Promises.{ActsFrom}
use Rattle.answers.specs.Making.{RewritesPlannedFrom, RewritesFrom, not_planned, planned_so}
use Rattle.answers.proofs.changing.rewrite_small.Goals as goal

pub returns-in_err-numbers : goal.returns-in_err-numbers
returns-in_err-numbers g c = record {
  rewrites = λ honest s stands.
      let old = c.args.store.now in
      let e = c.in_err-numbers.field-0.0 in
      let acts = subst (λ (x : Core g.row.D.Denot). ActsFrom g.D.Disk.state old x (plan_rewrite c.args.min_rows) (refused_answer e) s) c.in_err-numbers.ensures.same (c.in_err-numbers.ensures.acts honest s stands) in
      refused (λ r. RewritesPlannedFrom g.D.Disk.state old c.plan_rewrite.new.self c.args.min_rows r s) c.from_residual.result e c.from_residual.ensures.1
      (not_planned e refl c.in_err-numbers.ensures.same acts);
}

pub returns : goal.returns
returns g c = record {
  rewrites = λ honest s stands.
      let old = c.args.store.now in
      let same = c.in_ok-numbers.ensures.same in
      let numbers = c.in_ok-numbers.numbers.items in
      let result = c.rewrite_groups.result in
      let new = c.rewrite_groups.new.store in
      let acts = subst (λ (x : Core g.row.D.Denot). ActsFrom g.D.Disk.state old x (plan_rewrite c.args.min_rows) (planned numbers) s) same (c.in_ok-numbers.ensures.acts honest s stands) in
      let done = c.rewrite_groups.ensures.rewrites (rw same honest) s (rw same stands) in
      let from_old = subst (λ (x : Core g.row.D.Denot). RewritesFrom g.D.Disk.state x new c.as_slice.result.now result s) same done in
      planned_so numbers acts (subst (λ (ns : List ℕ). RewritesFrom g.D.Disk.state old new ns result s) c.as_slice.ensures.value from_old);
}
