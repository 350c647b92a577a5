use Rattle.delta.proofs.Fitting.{one_by_lengths}
use Rattle.delta.proofs.codec.DeltaLengthsValueCodec.one_meaning.Goals as goal

pub returns : goal.returns
returns c = one_by_lengths
