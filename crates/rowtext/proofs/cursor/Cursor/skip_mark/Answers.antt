use Rattle.std.proofs.Common.{refl, sym, ap, ◌∷◌, ◌∙◌}
use Rattle.json.specs.Lex.{lex, between, operator_lexeme}
use Rattle.rowtext.specs.inner.Lines.{rest_of}
use Rattle.rowtext.proofs.Lexing.{mark}
use Rattle.rowtext.proofs.cursor.Cursor.skip_mark.Goals as goal

pub returns-then-skip_byte-clause-taken : goal.returns-then-skip_byte-clause-taken
returns-then-skip_byte-clause-taken c held =
    ap (lex between) (c.if-skip_byte.ensures.taken refl) ∙ mark c.args.mark (rest_of c.skip_byte.new.self) c.requires ∙ ap (λ ls. operator_lexeme c.args.mark ∷ ls) (sym c.skip_blanks.ensures)
