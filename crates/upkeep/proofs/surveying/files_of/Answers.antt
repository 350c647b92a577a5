use Rattle.std.proofs.Common.{◌+◌, length, arith}
use Rattle.manifest.specs.Groups.{root_of}
use Rattle.upkeep.proofs.Looking.{looks_then, looks_most}
use Rattle.upkeep.proofs.surveying.files_of.Goals as goal

pub returns-in_err-leftovers-clause-effect : goal.returns-in_err-leftovers-clause-effect
returns-in_err-leftovers-clause-effect g c =
    looks_most 0 (length (root_of c.args.manifest.now).groups) (g.D.Disk.state c.args.vault.now.disk) (g.D.Disk.state c.leftovers.new.vault.disk) (omega arith) c.leftovers.ensures.effect

pub returns-in_err-missing-clause-effect : goal.returns-in_err-missing-clause-effect
returns-in_err-missing-clause-effect g c =
    let n = length (root_of c.args.manifest.now).groups in
    let s0 = g.D.Disk.state c.args.vault.now.disk in
    let s2 = g.D.Disk.state c.missing_files.new.vault.disk in
    looks_most (0 + n) n s0 s2 (omega arith) (looks_then 0 n s0 (g.D.Disk.state c.leftovers.new.vault.disk) s2 c.leftovers.ensures.effect c.missing_files.ensures.effect)

pub returns-clause-effect : goal.returns-clause-effect
returns-clause-effect g c =
    let n = length (root_of c.args.manifest.now).groups in
    let s0 = g.D.Disk.state c.args.vault.now.disk in
    let s2 = g.D.Disk.state c.missing_files.new.vault.disk in
    looks_most (0 + n) n s0 s2 (omega arith) (looks_then 0 n s0 (g.D.Disk.state c.leftovers.new.vault.disk) s2 c.leftovers.ensures.effect c.missing_files.ensures.effect)
