use Rattle.partition.proofs.Roots.{part_paths_are_not_roots}
use Rattle.partition.proofs.laws.part_paths_are_not_roots.Goals as goal

pub returns : goal.returns
returns c = part_paths_are_not_roots
