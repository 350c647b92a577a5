use Rattle.upkeep.proofs.Looking.{looks_here, looks_then}
use Rattle.upkeep.proofs.unnamed.bytes_at.Goals as goal

pub loop-path-init : goal.loop-path-init
loop-path-init g c = looks_here (g.D.Disk.state c.args.vault.now.disk)

pub loop-path-preserved : goal.loop-path-preserved
loop-path-preserved g c =
    looks_then 0 0 (g.D.Disk.state c.args.vault.now.disk) (g.D.Disk.state c.loop-path.vault.disk) (g.D.Disk.state c.length_at.new.vault.disk) c.loop-path.invariant c.length_at.ensures.effect

pub returns-in_err-length : goal.returns-in_err-length
returns-in_err-length g c =
    record { effect = looks_then 0 0 (g.D.Disk.state c.args.vault.now.disk) (g.D.Disk.state c.loop-path.vault.disk) (g.D.Disk.state c.length_at.new.vault.disk) c.loop-path.invariant c.length_at.ensures.effect }

pub returns : goal.returns
returns g c = record { effect = c.loop-path.invariant }
