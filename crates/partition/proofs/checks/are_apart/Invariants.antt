use Rattle.std.proofs.Common.{◌≡◌, length}
use Rattle.schema.specs.Keys.{key_columns_view}
use Rattle.partition.specs.inner.Checks.{are_apart}
use Rattle.partition.proofs.checks.are_apart.Given as goal

-- the answer for the columns that are left is that for all
abbrev pub invariant-loop-column : goal.invariant-loop-column
invariant-loop-column l = are_apart (key_columns_view l.rest) ≡ are_apart (key_columns_view l.columns)

abbrev pub decreases-loop-column : goal.decreases-loop-column
decreases-loop-column l = length l.rest
