use Rattle.std.proofs.Common.{◌+◌, ◌<◌, ◌^◌, drop, arith}
use Rattle.std.proofs.lemmas.List.{drop_more}
use Rattle.rowtext.proofs.Digits.{digits_after, few_below, one_longer}
use Rattle.rowtext.proofs.integers.few_after.Goals as goal

pub overflow_mul-number : goal.overflow_mul-number
overflow_mul-number c =
    let small : c.loop-count.number < 10 ^ 17 = few_below c.loop-count.count c.loop-count.number (omega arith) c.loop-count.invariant.small in
    omega (arith, small)

pub overflow_add-number : goal.overflow_add-number
overflow_add-number c =
    let small : c.loop-count.number < 10 ^ 17 = few_below c.loop-count.count c.loop-count.number (omega arith) c.loop-count.invariant.small in
    let is = c.if-is_ascii_digit.ensures.cases in
    let one : c.from.result < 10 = omega (arith, is) in
    omega (arith, small, one)

pub loop-count-preserved : goal.loop-count-preserved
loop-count-preserved c =
    let l = c.loop-count in
    let xs = c.args.digits.now in
    let small : l.number < 10 ^ 17 = few_below l.count l.number (omega arith) l.invariant.small in
    let is = c.if-is_ascii_digit.ensures.cases in
    let one : c.from.result < 10 = omega (arith, is) in
    record {
      some = omega (arith, l.invariant.some);
      small = one_longer l.count l.number c.from.result l.invariant.small one;
      within = omega arith;
      front = digits_after l.number c.from.result _ _ (drop l.count xs) (drop (l.count + 1) xs) _ l.invariant.some one (omega (arith, is)) (omega arith) (omega (arith, small, one)) (drop_more xs l.count 0 (omega arith)) l.invariant.front;
    }
