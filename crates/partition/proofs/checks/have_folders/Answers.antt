use Rattle.std.proofs.Common.{sym}
use Rattle.partition.proofs.Partitioning.{have_folders-lengths}
use Rattle.partition.proofs.checks.have_folders.Goals as goal

pub returns-then-columns-values : goal.returns-then-columns-values
returns-then-columns-values c = sym (have_folders-lengths c.args.columns.now c.args.values.now c.if-columns-values.true)
