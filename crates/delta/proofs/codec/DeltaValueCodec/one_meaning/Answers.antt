use Rattle.delta.proofs.One.{one_delta}
use Rattle.delta.proofs.codec.DeltaValueCodec.one_meaning.Goals as goal

pub returns : goal.returns
returns g c = one_delta g.T.Integer.width
