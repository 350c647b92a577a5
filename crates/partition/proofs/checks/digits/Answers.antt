use Rattle.std.proofs.Common.{arith}
use Rattle.partition.proofs.Digits.{more_digits, one_digit, few_digits}
use Rattle.partition.proofs.checks.digits.Goals as goal

pub loop-rest-preserved : goal.loop-rest-preserved
loop-rest-preserved c = record {
  small = omega arith;
  counted = omega (arith, more_digits c.loop-rest.rest (omega arith) c.loop-rest.invariant.small);
}

pub overflow_add-count : goal.overflow_add-count
overflow_add-count c = omega (arith, few_digits c.args.number (omega arith))

pub returns : goal.returns
returns c = omega (arith, one_digit c.loop-rest.rest (omega arith))
