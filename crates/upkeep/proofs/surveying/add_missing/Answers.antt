use Rattle.std.proofs.Common.{arith}
use Rattle.upkeep.proofs.Looking.{looks_here, looks_most}
use Rattle.upkeep.proofs.surveying.add_missing.Goals as goal

pub returns-in_err-path : goal.returns-in_err-path
returns-in_err-path g c = let s = g.D.Disk.state c.args.vault.now.disk in record { effect = looks_most 0 1 s s (omega arith) (looks_here s) }
