use Rattle.std.proofs.Common.{◌≡◌, ◌∙◌, ◌+◌, length, ap, arith}
use Rattle.manifest.specs.Groups.{root_of}
use Rattle.upkeep.proofs.Looking.{looks_here, looks_then, looks_most}
use Rattle.upkeep.proofs.surveying.missing_files.Goals as goal

pub loop-i-init : goal.loop-i-init
loop-i-init g c = looks_here (g.D.Disk.state c.args.vault.now.disk)

pub loop-i-preserved : goal.loop-i-preserved
loop-i-preserved g c =
    looks_then c.loop-i.i 1 (g.D.Disk.state c.args.vault.now.disk) (g.D.Disk.state c.loop-i.vault.disk) (g.D.Disk.state c.add_missing_at.new.vault.disk) c.loop-i.invariant c.add_missing_at.ensures.effect

pub returns-in_err-add_missing_at : goal.returns-in_err-add_missing_at
returns-in_err-add_missing_at g c =
    let s0 = g.D.Disk.state c.args.vault.now.disk in
    let s2 = g.D.Disk.state c.add_missing_at.new.vault.disk in
    let i = c.loop-i.i in
    let count : c.len-i-end.result ≡ length (root_of c.args.manifest.now).groups = c.len-i-end.ensures ∙ ap length c.groups.ensures.are in
    record { effect = looks_most (i + 1) (length (root_of c.args.manifest.now).groups) s0 s2 (omega (arith, count)) (looks_then i 1 s0 (g.D.Disk.state c.loop-i.vault.disk) s2 c.loop-i.invariant c.add_missing_at.ensures.effect) }

pub returns : goal.returns
returns g c =
    let count : c.len-i-end.result ≡ length (root_of c.args.manifest.now).groups = c.len-i-end.ensures ∙ ap length c.groups.ensures.are in
    record { effect = looks_most c.loop-i.i (length (root_of c.args.manifest.now).groups) (g.D.Disk.state c.args.vault.now.disk) (g.D.Disk.state c.loop-i.vault.disk) (omega (arith, count)) c.loop-i.invariant }
