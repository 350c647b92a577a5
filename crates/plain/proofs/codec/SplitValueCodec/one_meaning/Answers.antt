use Rattle.plain.proofs.Streams.{one_split}
use Rattle.plain.proofs.codec.SplitValueCodec.one_meaning.Goals as goal

pub returns : goal.returns
returns c = one_split c.args.self.now.kind
