use Rattle.std.proofs.Common.{sym}
use Rattle.plain.proofs.Places.{count_from}
use Rattle.shred.specs.inner.Roomy.{list_of}
use Rattle.shred.proofs.plain_values.PlainValues.len.Goals as goal

pub returns : goal.returns
returns c = let p = c.args.self.now in sym (count_from p.kind p.count 0 (list_of p.bytes))
