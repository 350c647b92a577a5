use Rattle.std.proofs.Common.{arith}
use Rattle.partition.proofs.Digits.{few_digits}
use Rattle.partition.proofs.checks.signed_digits.Goals as goal

pub overflow_add-result : goal.overflow_add-result
overflow_add-result c = omega (arith, few_digits c.unsigned_abs.result (omega arith), c.digits-digits.ensures)
