use Rattle.shred.specs.inner.Roomy.{list_of}
use Rattle.shred.proofs.InPlain.{all_first}
use Rattle.shred.proofs.plain_values.PlainValues.mark.Goals as goal

pub returns-clause-marked : goal.returns-clause-marked
returns-clause-marked c = let p = c.args.self.now in all_first p.kind (list_of p.bytes) p.count
