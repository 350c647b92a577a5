use Rattle.schema.proofs.Cuts.{cut_has_leaves}
use Rattle.schema.proofs.cutting_laws.a_cut_has_the_wanted_leaves.Goals as goal

pub returns : goal.returns
returns c = cut_has_leaves
