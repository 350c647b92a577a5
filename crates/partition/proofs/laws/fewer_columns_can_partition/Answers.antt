use Rattle.partition.proofs.Nested.{fewer_can_partition}
use Rattle.partition.proofs.laws.fewer_columns_can_partition.Goals as goal

pub returns : goal.returns
returns c = fewer_can_partition
