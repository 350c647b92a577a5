use Rattle.upkeep.proofs.Looking.{looks_here, looks_then}
use Rattle.upkeep.proofs.obstacles.+seek.Goals as goal

pub seek-loop-entry-init : goal.seek-loop-entry-init
seek-loop-entry-init g t c = looks_here (g.D.Disk.state c.listed.new.vault.disk)

pub seek-returns-clause-effect : goal.seek-returns-clause-effect
seek-returns-clause-effect g t c =
    looks_then 0 0 (g.D.Disk.state c.args.vault.now.disk) (g.D.Disk.state c.listed.new.vault.disk) (g.D.Disk.state c.loop-entry.vault.disk) c.listed.ensures.effect c.loop-entry.invariant

pub seek-returns-in_err-seek_at-clause-effect : goal.seek-returns-in_err-seek_at-clause-effect
seek-returns-in_err-seek_at-clause-effect g t c =
    let s0 = g.D.Disk.state c.args.vault.now.disk in
    let s1 = g.D.Disk.state c.listed.new.vault.disk in
    let s2 = g.D.Disk.state c.loop-entry.vault.disk in
    let s3 = g.D.Disk.state c.seek_at.new.vault.disk in
    looks_then 0 0 s0 s1 s3 c.listed.ensures.effect (looks_then 0 0 s1 s2 s3 c.loop-entry.invariant c.seek_at.ensures.effect)

pub seek-loop-entry-preserved : goal.seek-loop-entry-preserved
seek-loop-entry-preserved g t c =
    looks_then 0 0 (g.D.Disk.state c.listed.new.vault.disk) (g.D.Disk.state c.loop-entry.vault.disk) (g.D.Disk.state c.seek_at.new.vault.disk) c.loop-entry.invariant c.seek_at.ensures.effect
