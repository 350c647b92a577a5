use Rattle.std.proofs.lemmas.Nat.{and_mask}
use Rattle.delta.proofs.Wrap.{low_is}
use Rattle.delta.proofs.integer.low.Goals as goal

pub returns : goal.returns
returns c = low_is c.args.number _ c.cast_signed.result (and_mask c.args.number 32) c.cast_signed.ensures
