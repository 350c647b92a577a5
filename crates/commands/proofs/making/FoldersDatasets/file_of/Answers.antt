use Rattle.std.proofs.Common.{ap}
use Rattle.std.proofs.lemmas.Result.{IfOk-weaker, IfErr-weaker}
use Rattle.answers.specs.Importing.{files_view}
use Rattle.commands.proofs.FilesGiven.{one_given, not_one_given}
use Rattle.commands.proofs.making.FoldersDatasets.file_of.Goals as goal

pub returns-clause-gives : goal.returns-clause-gives
returns-clause-gives g c =
    let was = files_view c.new.result.items in
    let files = files_view c.give_files.new.sink.files.items in
    IfOk-weaker c.only.result _ _ (λ file only. one_given was files (ap files_view c.new.ensures.items) c.in_ok-give_files.ensures.gives file.items only) c.only.ensures.only

pub returns-clause-withheld : goal.returns-clause-withheld
returns-clause-withheld g c =
    let was = files_view c.new.result.items in
    let files = files_view c.give_files.new.sink.files.items in
    IfErr-weaker c.only.result _ _ (λ e other. not_one_given was files (ap files_view c.new.ensures.items) c.in_ok-give_files.ensures.gives e other) c.only.ensures.others
