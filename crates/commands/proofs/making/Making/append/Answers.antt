use Rattle.std.proofs.Common.{refl, Ok, Err}
use Rattle.manifest.specs.Groups.{root_of}
use Rattle.commands.specs.Calls.{lines_read}
use Rattle.places.proofs.PlacesKept.{carried}
use Rattle.commands.proofs.BlocksRead.{of_shut}
use Rattle.commands.proofs.TablesFound.{no_file_of, no_table_of, no_rows_of, in_folder_so, changes_so}
use Rattle.commands.proofs.making.Making.append.Goals as goal

pub returns-in_err-file-clause-comes : goal.returns-in_err-file-clause-comes
returns-in_err-file-clause-comes g c =
    no_file_of c.from_residual.result c.in_err-file.field-0.0 c.from_residual.ensures.1 c.in_err-file.ensures.refused c.reader.ensures.same refl

pub returns-in_err-table-clause-comes : goal.returns-in_err-table-clause-comes
returns-in_err-table-clause-comes g c =
    let e = c.in_err-table.field-0.0 in
    no_table_of c.from_residual-in_err-table.result e c.from_residual-in_err-table.ensures.1
    (carried c.reader.ensures.same _ c.args.self.now.call.now.folder.now _ _ (Err e) c.in_err-table.ensures.finds) refl

pub returns-in_err-rows-clause-comes : goal.returns-in_err-rows-clause-comes
returns-in_err-rows-clause-comes g c =
    let known = g.P.Places.known c.args.places.now in
    let path = c.args.path.now in
    let call = c.args.self.now.call.now in
    let e = c.in_err-rows.field-0.0 in
    no_rows_of c.from_residual-in_err-rows.result e c.in_ok-table.table c.from_residual-in_err-rows.ensures.1
    (carried c.reader.ensures.same _ call.folder.now _ _ (Ok c.in_ok-table.table) c.in_ok-table.ensures.finds)
    (of_shut c.in_ok-file.ensures.shut _ (known.file path) c.in_ok-file.ensures.opened call.texts _ e c.in_err-rows.ensures.which) refl

pub returns-clause-comes : goal.returns-clause-comes
returns-clause-comes g c =
    let call = c.args.self.now.call.now in
    let all = c.in_ok-rows.ensures.stands in
    let table = c.in_ok-table.table in
    lines_read c.find_table.new.places table all.bytes all.held.rows (carried c.reader.ensures.same _ call.folder.now _ _ (Ok c.in_ok-table.table) c.in_ok-table.ensures.finds)
    (c.in_ok-file.ensures.opened all.bytes all.known) all.utf8 all.held.read
    (in_folder_so _ _ c.change.result (λ begun ended. changes_so _ _ c.change.result (λ from to with. with (root_of table) all.held.rows all.held.held all.held.table)) c.change.ensures.comes)
