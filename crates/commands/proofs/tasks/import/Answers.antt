use Rattle.std.proofs.Common.{◌∙◌, ℕ, List, subst, arith}
use Rattle.answers.specs.Importing.{files_view}
use Rattle.answers.specs.Unless.{AsksImport}
use Rattle.answers.specs.Making.{lent_text}
use Rattle.commands.specs.Tasks.{MakesAsked}
use Rattle.commands.proofs.TasksMade.{first_at, viewed, one_imported, several_imported}
use Rattle.commands.proofs.tasks.import.Goals as goal

pub returns-then-files-gt1 : goal.returns-then-files-gt1
returns-then-files-gt1 g c =
    let files = files_view c.args.files.now in
    record {
      imports = several_imported g.D.Disk.state c.args.texts c.args.store.now c.import_several.new.store (lent_text c.args.unless) c.import_several.result files
          (omega (arith, viewed c.args.files.now, c.if-files-gt1.true)) c.import_several.ensures.imports;
    }

pub returns-else-files-gt1 : goal.returns-else-files-gt1
returns-else-files-gt1 g c =
    let files = files_view c.args.files.now in
    record {
      imports = one_imported g.D.Disk.state c.args.texts c.args.store.now c.import_one.new.store (lent_text c.args.unless) c.import_one.result files
          (omega (arith, viewed c.args.files.now, c.if-files-gt1.false))
          (subst (λ (bytes : List ℕ). MakesAsked g.D.Disk.state c.args.texts c.args.store.now c.import_one.new.store (lent_text c.args.unless) (AsksImport bytes) (λ fs e. ⊥) c.import_one.result)
          (c.bytes_at.ensures ∙ first_at files) c.import_one.ensures.imports);
    }
