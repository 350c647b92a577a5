use Rattle.std.proofs.Common.{refl}
use Rattle.places.proofs.PlacesKept.{carried, not_had_of}
use Rattle.commands.proofs.making.Making.change.Goals as goal

pub returns-in_err-lock-clause-comes : goal.returns-in_err-lock-clause-comes
returns-in_err-lock-clause-comes g c =
    not_had_of c.from_residual.result c.in_err-lock.field-0.0 c.from_residual.ensures.1 c.in_err-lock.ensures.refused c.lock.ensures.same refl

pub returns-clause-comes : goal.returns-clause-comes
returns-clause-comes g c =
    carried c.lock.ensures.same _ c.args.self.now.call.now.folder.now _ _ c.change_in_folder-made.result c.change_in_folder-made.ensures.comes

pub invariant_of-brought : goal.invariant_of-brought
invariant_of-brought g c = record { alike = c.brought-1.given.0.0.gathered.buffers.alike }
