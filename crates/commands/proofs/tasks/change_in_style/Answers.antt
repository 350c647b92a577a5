use Rattle.std.proofs.Common.{Err, ap}
use Rattle.vault.proofs.Chained.{refused}
use Rattle.answers.specs.Importing.{files_view}
use Rattle.commands.specs.Tasks.{MakesInStyle, in_style, no_style}
use Rattle.commands.proofs.tasks.change_in_style.Goals as goal

pub returns-in_err-keep_style : goal.returns-in_err-keep_style
returns-in_err-keep_style g c = record {
  makes =
      let e = c.in_err-keep_style.field-0.0 in
      let told = c.in_err-keep_style.ensures.refused in
      refused (λ r. MakesInStyle g.D.Disk.state c.args.keeps c.args.texts c.args.store.now c.keep_style.new.store c.args.change.now (files_view c.args.files.now) r) c.from_residual.result e c.from_residual.ensures.1
      (no_style (ap Err told.0) told.1);
}

pub returns : goal.returns
returns g c = record {
  makes =
      let kept = c.in_ok-keep_style.ensures in
      in_style c.keep_style.new.store kept.style kept.stands kept.other c.make_change.ensures.makes;
}
