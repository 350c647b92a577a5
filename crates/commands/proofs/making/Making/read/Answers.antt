use Rattle.std.proofs.Common.{refl}
use Rattle.places.proofs.PlacesKept.{carried, not_had_of}
use Rattle.commands.proofs.making.Making.read.Goals as goal

pub returns-in_err-lock-clause-comes : goal.returns-in_err-lock-clause-comes
returns-in_err-lock-clause-comes g c =
    not_had_of c.from_residual.result c.in_err-lock.field-0.0 c.from_residual.ensures.1 c.in_err-lock.ensures.refused c.share.ensures.same refl

pub returns-clause-comes : goal.returns-clause-comes
returns-clause-comes g c =
    carried c.share.ensures.same _ c.args.self.now.call.now.folder.now _ _ c.answer_in_folder-answered.result c.answer_in_folder-answered.ensures.comes
