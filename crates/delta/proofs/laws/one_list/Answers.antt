use Rattle.delta.proofs.One.{one_delta}
use Rattle.delta.proofs.laws.one_list.Goals as goal

pub returns : goal.returns
returns c = one_delta
