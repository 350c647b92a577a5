use Rattle.places.proofs.PlacesKept.{carried, not_had_of}
use Rattle.commands.proofs.making.Making.find_table.Goals as goal

pub returns-in_err-lock-clause-finds : goal.returns-in_err-lock-clause-finds
returns-in_err-lock-clause-finds g c =
    not_had_of c.from_residual.result c.in_err-lock.field-0.0 c.from_residual.ensures.1 c.in_err-lock.ensures.refused c.share.ensures.same tt

pub returns-clause-finds : goal.returns-clause-finds
returns-clause-finds g c =
    carried c.share.ensures.same _ c.args.self.now.call.now.folder.now _ _ c.find_table_in_folder-found.result c.find_table_in_folder-found.ensures.finds
