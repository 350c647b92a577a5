use Rattle.std.proofs.Common.{sym, ◌∙◌, ◌≡◌, arith}
use Rattle.std.proofs.lemmas.Bool.Decides.{Decides-eqb}
use Rattle.std.proofs.lemmas.Slice.Eq.{slice_eq-Decides}
use Rattle.json.specs.Print.{escape_letter}
use Rattle.rowtext.proofs.EscapedBytes.{low_byte}
use Rattle.rowtext.proofs.Unescaping.{letter_low, letter_byte}
use Rattle.rowtext.proofs.escapes.is_escape_of.Goals as goal

pub returns-then-letter-gt0 : goal.returns-then-letter-gt0
returns-then-letter-gt0 c held =
    let same = (slice_eq-Decides Decides-eqb c.args.shown.now c.as_slice.result.now c.eq.result c.eq.ensures).0 held in
    let is = c.escape_letter-letter.ensures in
    (letter_low c.args.byte (omega (arith, is, c.if-letter-gt0.true)), same ∙ c.as_slice.ensures ∙ letter_byte c.args.byte c.escape_letter-letter.result is c.if-letter-gt0.true)

pub returns-then-byte-lt32 : goal.returns-then-byte-lt32
returns-then-byte-lt32 c held =
    let same = (slice_eq-Decides Decides-eqb c.args.shown.now c.as_slice-then-byte-lt32.result.now c.eq-then-byte-lt32.result c.eq-then-byte-lt32.ensures).0 held in
    let none : escape_letter c.args.byte ≡ 0 = sym c.escape_letter-letter.ensures ∙ omega (arith, c.if-letter-gt0.false) in
    (omega (arith, c.if-byte-lt32.true), same ∙ c.as_slice-then-byte-lt32.ensures ∙ low_byte c.args.byte c.digit.result c.digit-then-byte-lt32.result none c.if-byte-lt32.true c.digit.ensures c.digit-then-byte-lt32.ensures)
