use Rattle.delta.proofs.OneByBytes.{one_lengths}
use Rattle.delta.proofs.laws.one_byte_list.Goals as goal

pub returns : goal.returns
returns c = one_lengths
