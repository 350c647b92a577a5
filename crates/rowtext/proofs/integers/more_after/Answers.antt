use Rattle.std.proofs.Common.{◌+◌, drop, arith}
use Rattle.std.proofs.lemmas.List.{drop_more}
use Rattle.rowtext.proofs.Digits.{digits_after}
use Rattle.rowtext.proofs.integers.more_after.Goals as goal

pub loop-at-preserved : goal.loop-at-preserved
loop-at-preserved c =
    let l = c.loop-at in
    let xs = c.args.digits.now in (
      omega (arith, l.invariant.0),
      digits_after l.number c.in-Some.digit c.in_ok-number.number _ (drop l.at xs) (drop (l.at + 1) xs) _ l.invariant.0 c.in-Some.ensures.0 c.in-Some.ensures.1 (omega arith) (omega arith)
          (drop_more xs l.at _ (omega arith)) l.invariant.1,
    )
