use Rattle.std.proofs.Common.{◌≡◌, suc, ◌-◌, length, arith}
use Rattle.schema.proofs.Relisted.{to_end, from_end}
use Rattle.schema.proofs.growing.ends_optional.Goals as goal

pub returns : goal.returns
returns c =
    let xs = c.args.fields.now in
    let last : suc (length xs - 1) ≡ length xs = grind (arith, c.is_empty.ensures, c.if-is_empty.false) in (
      (λ h. from_end xs (length xs - 1) c.index-fields-at.result last c.index-fields-at.is (c.is_optional.ensures.0 h)),
      (λ h. c.is_optional.ensures.1 (to_end xs (length xs - 1) c.index-fields-at.result last c.index-fields-at.is h)),
    )
