use Rattle.commands.proofs.OfFile.{of_ask}
use Rattle.commands.proofs.making.Making.make_of_file.Goals as goal

pub returns-in_ok-bytes-in-Ask-clause-prints : goal.returns-in_ok-bytes-in-Ask-clause-prints
returns-in_ok-bytes-in-Ask-clause-prints g c =
    let contents = g.W.Write.contents in
    of_ask (g.P.Places.known c.args.places.now) c.args.self.now.call.now.folder.now c.in_ok-bytes-in-Ask.bytes.items (contents c.args.out.now)
    (contents c.print_file_columns.new.out) c.print_file_columns.result c.in_ok-bytes-in-Ask.ensures.read c.args.self.now.call.now.task _ c.as_slice.result.now
    c.in-Ask.is c.requires.task c.as_slice.ensures.value c.print_file_columns.ensures.printed
