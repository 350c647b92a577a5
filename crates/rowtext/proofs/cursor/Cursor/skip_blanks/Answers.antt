use Rattle.std.proofs.Common.{◌≡◌, ◌+◌, drop, get_or, true, sym, ap, ◌∙◌, arith}
use Rattle.std.proofs.lemmas.List.{drop_more}
use Rattle.json.specs.Lex.{lex, between}
use Rattle.json.specs.Word.{is_space}
use Rattle.rowtext.proofs.Lexing.{blank}
use Rattle.rowtext.proofs.cursor.Cursor.skip_blanks.Goals as goal

pub blanks-preserved : goal.blanks-preserved
blanks-preserved c =
    let l = c.blanks in
    let xs = c.as_bytes-bytes.result.now in
    let x = get_or xs l.at 0 in
    let held : is_space x ≡ true = grind arith in
    (omega arith, sym (blank x (drop (l.at + 1) xs) held) ∙ ap (lex between) (sym (drop_more xs l.at 0 (omega arith))) ∙ l.invariant.1)
