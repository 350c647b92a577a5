use Rattle.hybrid_rle.proofs.Hybrids.{one_hybrid}
use Rattle.hybrid_rle.proofs.laws.one_list.Goals as goal

pub returns : goal.returns
returns c = one_hybrid
