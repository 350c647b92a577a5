use Rattle.std.proofs.Common.{◌∙◌, arith}
use Rattle.delta.proofs.Sharing.{text_before}
use Rattle.delta.proofs.put_prefixes.value_before.Goals as goal

pub returns : goal.returns
returns g c =
    c.bytes_of.ensures ∙ text_before g.V.Lends.lent c.args.values.now c.args.i c.index-values-i.result (omega (arith, c.if-i-eq0.false)) (omega (arith, c.requires)) c.index-values-i.is
