use Rattle.std.proofs.Common.{sym, ap, ◌∙◌, length}
use Rattle.partition.proofs.Partitioning.{key_length}
use Rattle.partition.proofs.paths.path_of.Goals as goal

pub joined_folders-requires : goal.joined_folders-requires
joined_folders-requires c = key_length c.args.columns.now c.args.key.now.values.items (c.can_partition.ensures.0 c.if-not-can_partition.false).values ∙ ap length (sym c.as_slice.ensures.value)
