use Rattle.hybrid_rle.proofs.Hybrids.{one_hybrid}
use Rattle.hybrid_rle.proofs.codec.HybridValueCodec.one_meaning.Goals as goal

pub returns : goal.returns
returns g c = one_hybrid c.args.self.now.width
