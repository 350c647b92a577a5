use Rattle.std.proofs.Common.{sym, ◌∙◌}
use Rattle.schema.specs.Views.{key_view}
use Rattle.partition.proofs.Partitioning.{can_then, can_else}
use Rattle.partition.proofs.checks.can_partition.Goals as goal

pub returns-then-are_key_columns : goal.returns-then-are_key_columns
returns-then-are_key_columns c = can_then _ (key_view c.args.key.now) c.have_folders.result (sym c.are_key_columns.ensures ∙ c.if-are_key_columns.true) (rw c.as_slice.ensures.value at c.have_folders.ensures)

pub returns-else-are_key_columns : goal.returns-else-are_key_columns
returns-else-are_key_columns c = can_else _ (key_view c.args.key.now) c.are_key_columns.result c.are_key_columns.ensures c.if-are_key_columns.false
