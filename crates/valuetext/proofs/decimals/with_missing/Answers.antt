use Rattle.std.proofs.Common.{arith, to_z-of_z, FitsSigned}
use Rattle.std.specs.Int.{w128}
use Rattle.jiff_core.proofs.SignedLemmas.{signed_casts}
use Rattle.valuetext.proofs.DecimalTexts.{missing_none, missing_some}
use Rattle.valuetext.proofs.decimals.with_missing.Goals as goal

pub returns-clause-number : goal.returns-clause-number
returns-clause-number c =
    let fits : FitsSigned w128 c.args.shown = c.ranges.shown in
    missing_some c.args.missing c.args.shown _ _ c.checked_mul.result c.checked_mul.ensures (to_z-of_z fits)
    (omega (arith, signed_casts, c.power_of_ten-power.ensures.value, c.power_of_ten-power.ensures.bound))

pub returns-clause-none : goal.returns-clause-none
returns-clause-none c = λ none range.
    let fits : FitsSigned w128 c.args.shown = c.ranges.shown in
    missing_none c.args.missing c.args.shown _ _ c.checked_mul.result c.checked_mul.ensures (to_z-of_z fits)
    (omega (arith, signed_casts, c.power_of_ten-power.ensures.value, c.power_of_ten-power.ensures.bound)) none range
