use Rattle.std.proofs.lemmas.Result.{on_ok_weaker}
use Rattle.manifest.specs.Groups.{root_of}
use Rattle.commands.proofs.LooksFound.{fit_of}
use Rattle.commands.proofs.making.Making.look_at_rows.Goals as goal

pub returns-in_ok-print_rows_fit-in-Ok-clause-fit : goal.returns-in_ok-print_rows_fit-in-Ok-clause-fit
returns-in_ok-print_rows_fit-in-Ok-clause-fit g c =
    let contents = g.W.Write.contents in
    let text = c.in-Ok.ensures.text in
    on_ok_weaker c.print_doubled_note.result
    (fit_of c.args.self.now.call.now.texts (root_of c.args.table.now).schema c.args.bytes.now c.in-Ok.text.now
    (contents c.args.out.now) (contents c.print_rows_fit.new.out) (contents c.print_doubled_note.new.out) text.0 text.1 c.in_ok-print_rows_fit-in-Ok.ensures.fit)
    c.print_doubled_note.ensures.noted
