use Rattle.std.proofs.Common.{arith}
use Rattle.upkeep.proofs.Looking.{looks_here, looks_most}
use Rattle.upkeep.proofs.surveying.add_missing_at.Goals as goal

pub returns-in-None : goal.returns-in-None
returns-in-None g c = let s = g.D.Disk.state c.args.vault.now.disk in record { effect = looks_most 0 1 s s (omega arith) (looks_here s) }
