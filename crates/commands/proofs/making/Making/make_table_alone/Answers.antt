use Rattle.places.proofs.PlacesKept.{carried, not_had_of}
use Rattle.commands.proofs.making.Making.make_table_alone.Goals as goal

pub returns-in_err-readers-clause-comes : goal.returns-in_err-readers-clause-comes
returns-in_err-readers-clause-comes g c =
    not_had_of c.from_residual.result c.in_err-readers.field-0.0 c.from_residual.ensures.1 c.in_err-readers.ensures.refused c.wait_out.ensures.same tt

pub returns-clause-comes : goal.returns-clause-comes
returns-clause-comes g c =
    carried c.wait_out.ensures.same _ c.args.self.now.call.now.folder.now _ _ c.make_table_in_folder-made.result c.make_table_in_folder-made.ensures
