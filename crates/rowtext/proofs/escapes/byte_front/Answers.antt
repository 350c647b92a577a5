use Rattle.std.proofs.Common.{◌+◌, ◌*◌, ◌∷◌, ap, ap₂, sym, ◌∙◌, drop, arith}
use Rattle.rowtext.specs.inner.Escapes.{unescape}
use Rattle.rowtext.proofs.Unescaping.{digits_front}
use Rattle.rowtext.proofs.escapes.byte_front.Goals as goal

pub returns : goal.returns
returns c =
    let s = c.args.content.now in
    let digits = ap₂ (λ i j. i * 16 + j) (sym c.value_of_digit.ensures.value) (sym c.value_of_digit-2.ensures.value) in
    (digits_front s c.if-content-lt6.false c.if-content-ne92.false c.if-content-ne117.false ∙ ap (λ v. v ∷ unescape (drop 6 s)) digits, (omega arith, c.if-content-lt6.false))
