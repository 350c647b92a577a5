use Rattle.std.proofs.Common.{◌≡◌, ◌*◌, ◌∙◌, ap, arith, to_z, of_z, to_z-of_z, w64, FitsSigned, unsigned_abs}
use Rattle.jiff_core.proofs.SignedLemmas.{signed_arith}
use Rattle.jiff_fmt.specs.Text.{time_text}
use Rattle.valuetext.proofs.TimeTexts.{product_is}
use Rattle.valuetext.proofs.times.time_text.Goals as goal

pub returns-clause-text : goal.returns-clause-text
returns-clause-text c =
    let t = c.from_nanosecond-time.result in
    let fits : FitsSigned w64 c.args.number = c.ranges.number in
    let back : to_z w64 (of_z w64 c.args.number) ≡ c.args.number = to_z-of_z fits in
    let nanos = c.from_nanosecond-time.ensures ∙ ap (λ z. unsigned_abs z * c.nanos.result) back in (
      t,
      product_is c.args.unit c.args.number c.nanos.result t (omega (arith, signed_arith, c.if-number-lt0.false)) c.nanos.ensures nanos,
      c.time_text.ensures ∙ ap (λ o. time_text o t) (ap (λ x. x.2) c.new.ensures),
    )
