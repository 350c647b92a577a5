use Rattle.std.proofs.Common.{◌≡◌, ◌∙◌, ℕ, List, Err, map, ap, refl, subst}
use Rattle.vault.proofs.Chained.{refused}
use Rattle.table.specs.Calls.{groups, refused as refused_answer}
use Rattle.table.specs.declared.answer.GroupInfo.{GroupInfo}
use Rattle.table_state.specs.declared.standing.Core.{Core}
use Rattle.table_state.specs.Promises.{ActsFrom}
use Rattle.answers.specs.Making.{RewritesFrom}
use Rattle.answers.specs.Renewing.{RewritesAllFrom, all_named, not_listed, no_memory}
use Rattle.answers.proofs.Renewed.{told_numbers}
use Rattle.answers.proofs.renewing.rewrite_all.Goals as goal

pub returns-in_err-groups : goal.returns-in_err-groups
returns-in_err-groups g c = record {
  rewrites = λ honest s stands.
      let old = c.args.store.now in
      let e = c.in_err-groups.field-0.0 in
      let same = c.in_err-groups.ensures.same in
      let acts = subst (λ (x : Core g.row.D.Denot). ActsFrom g.D.Disk.state old x groups (refused_answer e) s) same (c.in_err-groups.ensures.acts honest s stands) in
      refused (λ r. RewritesAllFrom g.D.Disk.state old c.groups.new.self r s) c.from_residual.result e c.from_residual.ensures.1 (not_listed e refl same acts);
}

pub returns-in_err-numbers : goal.returns-in_err-numbers
returns-in_err-numbers g c = record {
  rewrites = λ honest s stands.
      let old = c.args.store.now in
      let e = c.in_err-numbers.field-0.0 in
      refused (λ r. RewritesAllFrom g.D.Disk.state old c.groups.new.self r s) c.from_residual-in_err-numbers.result e c.from_residual-in_err-numbers.ensures.1 (no_memory (ap Err c.in_err-numbers.ensures.memory) c.in_ok-groups.ensures.same);
}

pub returns : goal.returns
returns g c = record {
  rewrites = λ honest s stands.
      let old = c.args.store.now in
      let same = c.in_ok-groups.ensures.same in
      let infos = c.in_ok-groups.groups.items in
      let numbers = c.in_ok-numbers.numbers.items in
      let result = c.rewrite_groups.result in
      let new = c.rewrite_groups.new.store in
      let told = told_numbers g.D.Disk.state old c.groups.new.self s infos (c.in_ok-groups.ensures.acts honest s stands) in
      let of_infos : numbers ≡ map (λ (x : GroupInfo). x.number) infos =
      c.in_ok-numbers.ensures.numbers ∙ ap (map (λ (x : GroupInfo). x.number)) c.as_slice.ensures.value in
      let done = c.rewrite_groups.ensures.rewrites (rw same honest) s (rw same stands) in
      let from_old = subst (λ (x : Core g.row.D.Denot). RewritesFrom g.D.Disk.state x new c.as_slice-2.result.now result s) same done in
      all_named numbers (of_infos ∙ told) (subst (λ (ns : List ℕ). RewritesFrom g.D.Disk.state old new ns result s) c.as_slice-2.ensures.value from_old);
}
