use Rattle.rowtext.proofs.Lexing.{plain_text}
use Rattle.rowtext.proofs.cursor.Cursor.text_in_any_form.Goals as goal

pub returns-in-Some : goal.returns-in-Some
returns-in-Some c = plain_text c.in-Some.plain.now c.args.self.now c.string.new.self c.text_piece.result c.text_piece.ensures.text c.text_piece.ensures.shown c.in-Some.ensures
