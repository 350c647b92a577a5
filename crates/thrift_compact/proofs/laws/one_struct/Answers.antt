use Rattle.thrift_compact.proofs.One.{one_thrift}
use Rattle.thrift_compact.proofs.laws.one_struct.Goals as goal

pub returns : goal.returns
returns c = one_thrift
