use Rattle.std.proofs.Common.{ℕ, ap}
use Rattle.std.specs.Prelude.{nat_eq}
use Rattle.schema.specs.Values.{boolean}
use Rattle.plain.proofs.Bools.{bit_at}
use Rattle.plain.proofs.cursor.value_at.Goals as goal

pub returns-in-Boolean-clause-value : goal.returns-in-Boolean-clause-value
returns-in-Boolean-clause-value c = rw c.in-Boolean.is (ap (λ (k : ℕ). boolean (nat_eq k 1)) (bit_at c.args.bytes.now c.args.at))
