use Rattle.std.proofs.Common.{sym, ◌∙◌}
use Rattle.partition.proofs.Partitioning.{can_then, can_else}
use Rattle.partition.proofs.checks.row_can_partition.Goals as goal

pub returns-then-are_key_columns : goal.returns-then-are_key_columns
returns-then-are_key_columns c = can_then _ _ c.row_has_folders.result (sym c.are_key_columns.ensures ∙ c.if-are_key_columns.true) c.row_has_folders.ensures

pub returns-else-are_key_columns : goal.returns-else-are_key_columns
returns-else-are_key_columns c = can_else _ _ c.are_key_columns.result c.are_key_columns.ensures c.if-are_key_columns.false
