use Rattle.std.proofs.Common.{◌≡◌}
use Rattle.scan.proofs.WholeSchema.{counted_to}
use Rattle.scan.proofs.held.copied_schema.Given as goal

abbrev pub invariant-loop-number : goal.invariant-loop-number
invariant-loop-number l = l.numbers.items ≡ counted_to l.number
