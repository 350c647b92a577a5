use Rattle.std.proofs.Common.{◌≡◌, ◌+◌, [], length, arith}
use Rattle.lists.proofs.Options.{on_ok_weaker as ok_map}
use Rattle.manifest.specs.Groups.{root_of}
use Rattle.upkeep.proofs.Looking.{looks_then, looks_most}
use Rattle.upkeep.proofs.checking.check_files.Goals as goal

pub returns-in_err-obstacles-clause-effect : goal.returns-in_err-obstacles-clause-effect
returns-in_err-obstacles-clause-effect g c =
    let n = length (root_of c.args.manifest.now).groups in
    let s0 = g.D.Disk.state c.args.vault.now.disk in
    let s2 = g.D.Disk.state c.obstacles.new.vault.disk in
    looks_most (n + 0) n s0 s2 (omega arith) (looks_then n 0 s0 (g.D.Disk.state c.check_groups.new.vault.disk) s2 c.check_groups.ensures.effect c.obstacles.ensures.effect)

pub returns-clause-effect : goal.returns-clause-effect
returns-clause-effect g c =
    let n = length (root_of c.args.manifest.now).groups in
    let s0 = g.D.Disk.state c.args.vault.now.disk in
    let s2 = g.D.Disk.state c.obstacles.new.vault.disk in
    looks_most (n + 0) n s0 s2 (omega arith) (looks_then n 0 s0 (g.D.Disk.state c.check_groups.new.vault.disk) s2 c.check_groups.ensures.effect c.obstacles.ensures.effect)

pub returns-clause-held : goal.returns-clause-held
returns-clause-held g c = λ honest. ok_map _ _ c.add_obstacles.result (λ found empty. c.in_ok-check_groups.ensures.held honest (found empty)) c.add_obstacles.ensures.found
