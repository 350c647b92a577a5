use Rattle.partition.proofs.Nested.{part_names_are_plain}
use Rattle.partition.proofs.laws.part_names_are_plain.Goals as goal

pub returns : goal.returns
returns c = part_names_are_plain
