use Rattle.std.proofs.Common.{◌≡◌, List, take}
use Rattle.schema.specs.Stripe.{columns}
use Rattle.schema.specs.Values.{ValueTrees}
use Rattle.schema.specs.Views.{columns_view}
use Rattle.shred.specs.Buffer.{schema_of, holds}
use Rattle.table_jobs.proofs.rests.columns_of.Given as goal

-- the first columns are made
abbrev pub invariant-loop-leaf : goal.invariant-loop-leaf
invariant-loop-leaf l = (held : List ValueTrees) → holds l.buffer held → columns_view l.columns.items ≡ take l.leaf (columns (schema_of l.buffer) held)
