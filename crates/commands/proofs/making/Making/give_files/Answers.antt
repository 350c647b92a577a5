use Rattle.std.proofs.Common.{refl}
use Rattle.commands.specs.Calls.{of_question}
use Rattle.places.proofs.PlacesKept.{carried, not_had_of}
use Rattle.commands.proofs.making.Making.give_files.Goals as goal

pub returns-in_err-lock-clause-gives : goal.returns-in_err-lock-clause-gives
returns-in_err-lock-clause-gives g c =
    of_question c.in-Ask.question c.in-Ask.is (not_had_of c.from_residual.result c.in_err-lock.field-0.0 c.from_residual.ensures.1 c.in_err-lock.ensures.refused c.share.ensures.same refl)

pub returns-clause-gives : goal.returns-clause-gives
returns-clause-gives g c =
    of_question c.in-Ask.question c.in-Ask.is (carried c.share.ensures.same _ c.args.self.now.call.now.folder.now _ _ c.give_in_folder-given.result c.give_in_folder-given.ensures.gives)
