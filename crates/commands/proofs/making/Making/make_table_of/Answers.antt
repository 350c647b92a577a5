use Rattle.std.proofs.Common.{refl, Err}
use Rattle.places.specs.Places.{not_had}
use Rattle.places.proofs.PlacesKept.{carried}
use Rattle.commands.proofs.NewFolders.{of_made, unmade, not_made_of}
use Rattle.commands.proofs.making.Making.make_table_of.Goals as goal

pub returns-in_err-is_new-clause-comes : goal.returns-in_err-is_new-clause-comes
returns-in_err-is_new-clause-comes g c =
    let kept = c.in_err-is_new.ensures.refused in
    not_made_of c.from_residual.result c.in_err-is_new.field-0.0 c.from_residual.ensures.1 kept.0 kept.1

pub returns-in-Ok-clause-comes : goal.returns-in-Ok-clause-comes
returns-in-Ok-clause-comes g c =
    let path = c.args.self.now.call.now.folder.now in
    let made = c.make_table_alone-made.result in
    let u = c.unmake_folder.ensures in
    unmade c.in_ok-is_new.is_new made c.in_ok-is_new.ensures.new u.kept u.stays u.others
    (of_made made c.in_ok-is_new.ensures.made c.make_folder.ensures.others (carried c.lock.ensures.same _ path _ _ made c.make_table_alone-made.ensures.comes))

pub returns-in-Err-clause-comes : goal.returns-in-Err-clause-comes
returns-in-Err-clause-comes g c =
    let u = c.unmake_folder-in-Err.ensures in
    unmade c.in_ok-is_new.is_new (Err c.in-Err.refusal) c.in_ok-is_new.ensures.new u.kept u.stays u.others
    (of_made (Err c.in-Err.refusal) c.in_ok-is_new.ensures.made c.make_folder.ensures.others (not_had c.in-Err.refusal c.in-Err.ensures.refused c.lock.ensures.same (tt {0}) refl))
