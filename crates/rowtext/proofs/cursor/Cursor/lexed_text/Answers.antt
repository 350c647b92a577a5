use Rattle.std.proofs.Common.{rules}
use Rattle.rowtext.proofs.Lexing.{quoted_text}
use Rattle.rowtext.proofs.cursor.Cursor.lexed_text.Goals as goal

pub returns-in-Some-2 : goal.returns-in-Some-2
returns-in-Some-2 c =
    let there = c.in-Some.ensures in
    quoted_text c.in-Some.quoted.now c.in-Some-2.text.now c.args.self.now c.quoted.new.self c.quoted_piece.result c.quoted_piece.ensures.text c.quoted_piece.ensures.shown there.0 there.1 (search rules)
