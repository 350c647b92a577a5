use Rattle.std.proofs.Common.{◌∙◌, sym, ap, subst, arith, Some, to_z, of_z, to_z-of_z, FitsSigned}
use Rattle.std.specs.Int.{w128}
use Rattle.jiff_core.proofs.SignedLemmas.{signed_arith}
use Rattle.std.specs.Prelude.{IfSome}
use Rattle.std.specs.Option.{is_some}
use Rattle.valuetext.specs.Decimals.{ReadsDecimal, IsDecimalNumber}
use Rattle.leaftext.specs.Reads.{decimal_read}
use Rattle.leaftext.proofs.Decimals.{is_read, decimals_agree}
use Rattle.leaftext.proofs.FormTexts.{unread}
use Rattle.leaftext.proofs.decimal_bytes.number_from.Goals as goal

pub returns-in-Some : goal.returns-in-Some
returns-in-Some c =
    let number : ReadsDecimal c.args.scale c.in-Some.number c.args.text.now = subst (λ o. IfSome o (λ number. ReadsDecimal c.args.scale number c.args.text.now)) c.in-Some.is c.read_decimal-found.ensures.number in
    let fits : FitsSigned w128 c.copied.result = omega (arith, signed_arith, c.copied.ensures.bound, c.copied.ensures.same) in
    ap Some (to_z-of_z fits ∙ c.copied.ensures.same) ∙ sym (is_read c.args.scale c.in-Some.number c.args.text.now (omega (arith, c.if-scale-gt-MOST_SCALE.false)) number c.copied.ensures.bound)

pub returns-in-None : goal.returns-in-None
returns-in-None c =
    unread (decimal_read c.args.scale) (λ number text. ReadsDecimal c.args.scale number text × IsDecimalNumber number) (decimals_agree c.args.scale (omega (arith, c.if-scale-gt-MOST_SCALE.false))).1 c.args.text.now
    (λ number h. c.read_decimal-found.ensures.none (ap is_some c.in-None.is) number h.1 h.0)
