use Rattle.partition.proofs.Nested.{folders_nest}
use Rattle.partition.proofs.laws.folders_nest.Goals as goal

pub returns : goal.returns
returns c = folders_nest
