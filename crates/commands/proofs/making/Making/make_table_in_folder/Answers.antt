use Rattle.places.specs.Places.{given_back}
use Rattle.places.proofs.PlacesKept.{carried, but_then, not_had_of}
use Rattle.commands.proofs.NewFolders.{then_still}
use Rattle.commands.proofs.making.Making.make_table_in_folder.Goals as goal

pub returns-in_err-check_root_name : goal.returns-in_err-check_root_name
returns-in_err-check_root_name g c =
    not_had_of c.from_residual.result c.in_err-check_root_name.field-0.0 c.from_residual.ensures.1 c.in_err-check_root_name.ensures.refused c.check_root_name.ensures.same tt

pub returns-in_err-disk : goal.returns-in_err-disk
returns-in_err-disk g c =
    let kept = c.in_err-disk.ensures.refused in
    carried c.check_root_name.ensures.same _ c.args.self.now.call.now.folder.now _ _ c.from_residual-in_err-disk.result
    (not_had_of c.from_residual-in_err-disk.result c.in_err-disk.field-0.0 c.from_residual-in_err-disk.ensures.1 kept.0 kept.1 tt)

pub returns : goal.returns
returns g c =
    let path = c.args.self.now.call.now.folder.now in
    carried c.check_root_name.ensures.same _ path _ _ c.make_table_on-disk.result.1
    (then_still c.make_table_on-disk.result.1
    (given_back c.in_ok-disk.disk c.make_table_on-disk.result.0 c.in_ok-disk.ensures.taken c.give.ensures.given (but_then path c.take.ensures.others c.give.ensures.others)
    c.make_table_on-disk.ensures)
    c.make_lock.ensures)
