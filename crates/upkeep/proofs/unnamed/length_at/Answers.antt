use Rattle.std.proofs.Common.{arith}
use Rattle.vault.proofs.Steps.{reads_only}
use Rattle.upkeep.proofs.unnamed.length_at.Goals as goal

pub returns : goal.returns
returns g c =
    let e = c.length-measured.ensures in
    record { effect = record { unchanged = λ honest. reads_only _ _ (e.effect honest).still; reads = omega (arith, e.reads); counts = e.counts.later; honest = e.honest } }
