use Rattle.plain.proofs.Streams.{one_split}
use Rattle.plain.proofs.laws.one_split_list.Goals as goal

pub returns : goal.returns
returns c = one_split
