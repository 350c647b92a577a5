use Rattle.std.proofs.Common.{◌∙◌, ℕ, List, sym, subst}
use Rattle.dataset_words.specs.declared.call.Change.{Change}
use Rattle.table.specs.Calls.{remove_groups, done}
use Rattle.table.specs.Views.{answered}
use Rattle.table_state.specs.Promises.{Acts}
use Rattle.answers.specs.Importing.{files_view}
use Rattle.answers.specs.Making.{Rewrites}
use Rattle.commands.specs.Tasks.{AddsColumn, MakesChange}
use Rattle.commands.proofs.TasksMade.{first_at}
use Rattle.commands.proofs.tasks.change_store.Goals as goal

pub returns-in-AddColumn : goal.returns-in-AddColumn
returns-in-AddColumn g c = record {
  makes =
      let state = g.D.Disk.state in
      let old = c.args.store.now in
      let new = c.add_column_of.new.store in
      let files = files_view c.args.files.now in
      let result = c.add_column_of.result in
      subst (λ (change : Change). MakesChange state c.args.texts old new change files result) (sym c.in-AddColumn.is)
      (subst (λ (bytes : List ℕ). AddsColumn state old new bytes result) (c.bytes_at.ensures ∙ first_at files) c.add_column_of.ensures.adds);
}

pub returns-in-RemoveGroups : goal.returns-in-RemoveGroups
returns-in-RemoveGroups g c = record {
  makes =
      let state = g.D.Disk.state in
      let old = c.args.store.now in
      let new = c.remove_groups.new.self in
      let files = files_view c.args.files.now in
      let result = c.remove_groups.result in
      subst (λ (change : Change). MakesChange state c.args.texts old new change files result) (sym c.in-RemoveGroups.is)
      (subst (λ (numbers : List ℕ). Acts state old new (remove_groups numbers) (answered {T = ℕ} (λ x. done x) result)) c.as_slice.ensures.value c.remove_groups.ensures.acts);
}

pub returns-in-Rewrite : goal.returns-in-Rewrite
returns-in-Rewrite g c = record {
  makes =
      let state = g.D.Disk.state in
      let old = c.args.store.now in
      let new = c.rewrite_groups.new.store in
      let files = files_view c.args.files.now in
      let result = c.rewrite_groups.result in
      subst (λ (change : Change). MakesChange state c.args.texts old new change files result) (sym c.in-Rewrite.is)
      (subst (λ (numbers : List ℕ). Rewrites state old new numbers result) c.as_slice-in-Rewrite.ensures.value c.rewrite_groups.ensures.rewrites);
}
