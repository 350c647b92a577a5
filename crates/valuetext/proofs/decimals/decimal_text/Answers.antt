use Rattle.std.proofs.Common.{to_z-of_z, FitsSigned}
use Rattle.std.specs.Int.{w128}
use Rattle.valuetext.proofs.DecimalTexts.{decimal_made}
use Rattle.valuetext.proofs.decimals.decimal_text.Goals as goal

pub returns : goal.returns
returns c =
    let fits : FitsSigned w128 c.args.number = c.ranges.number in
    decimal_made c.args.scale c.args.number _ _ _ _ _ c.requires fits (to_z-of_z fits) c.new-text.ensures c.put_sign.ensures.text c.unsigned_abs.ensures.value c.put_magnitude.ensures
