use Rattle.std.proofs.Common.{List, drop}
use Rattle.schema.specs.Stripe.{columns}
use Rattle.shred.specs.Buffer.{schema_of, holds}
use Rattle.table.specs.Table.{Row}
use Rattle.table_commits.specs.Wide.{AreFew}
use Rattle.table_commits.proofs.wide_part.has_few_entries.Given as goal

-- where those that are left have few entries, all have
abbrev pub invariant-loop-leaf : goal.invariant-loop-leaf
invariant-loop-leaf l = (held : List Row) → holds l.rows held → AreFew (drop l.leaf (columns (schema_of l.rows) held)) → AreFew (columns (schema_of l.rows) held)
