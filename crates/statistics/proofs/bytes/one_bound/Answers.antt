use Rattle.statistics.proofs.OneBound.{bounds_are_one}
use Rattle.statistics.proofs.bytes.one_bound.Goals as goal

pub returns : goal.returns
returns c = bounds_are_one c.one_list.ensures
