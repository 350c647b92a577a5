use Rattle.std.proofs.Common.{◌≡◌, ◌∷◌, sym, ap, ◌∙◌}
use Rattle.json.specs.Lex.{lex, between, begins_colon}
use Rattle.json.specs.Word.{ends_word}
use Rattle.rowtext.specs.inner.Lines.{rest_of}
use Rattle.rowtext.proofs.Lexing.{end_of}
use Rattle.rowtext.proofs.cursor.Cursor.is_ended.Goals as goal

pub returns-in-Some : goal.returns-in-Some
returns-in-Some c held =
    let whole : rest_of c.args.self.now ≡ c.in-Some.first ∷ c.in-Some._later.now = sym c.rest.ensures ∙ c.in-Some.ensures in
    let e = end_of c.in-Some.first c.in-Some._later.now (c.is_end.ensures held) in
    (ap ends_word whole ∙ e.0, ap (λ r. begins_colon (lex between r)) whole ∙ e.1)
