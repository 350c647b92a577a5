use Rattle.delta.proofs.OneByBytes.{one_prefixed}
use Rattle.delta.proofs.laws.one_prefixed_list.Goals as goal

pub returns : goal.returns
returns c = one_prefixed
