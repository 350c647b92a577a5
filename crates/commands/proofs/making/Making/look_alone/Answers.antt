use Rattle.std.proofs.Common.{refl}
use Rattle.places.proofs.PlacesKept.{carried, not_had_of}
use Rattle.commands.proofs.making.Making.look_alone.Goals as goal

pub returns-in_err-lock-clause-looks : goal.returns-in_err-lock-clause-looks
returns-in_err-lock-clause-looks g c =
    not_had_of c.from_residual.result c.in_err-lock.field-0.0 c.from_residual.ensures.1 c.in_err-lock.ensures.refused c.lock.ensures.same refl

pub returns-clause-looks : goal.returns-clause-looks
returns-clause-looks g c =
    carried c.lock.ensures.same _ c.args.self.now.call.now.folder.now _ _ c.look_in_folder-looked.result c.look_in_folder-looked.ensures.looks
