use Rattle.vault.specs.inner.Files.{Turned}
use Rattle.vault.proofs.Answering.{exit}
use Rattle.vault.proofs.Turning.{turn_refused, turned}
use Rattle.vault.proofs.vault.turn.Goals as goal

pub returns-in_err-rename-clause-effect : goal.returns-in_err-rename-clause-effect
returns-in_err-rename-clause-effect g c honest root file =
    let s0 = g.D.Disk.state c.args.disk.now in
    let s1 = g.D.Disk.state c.rename.new.self in
    exit (Turned root s0 s1) c.from_residual.result _ c.from_residual.ensures.1
    (turn_refused root s0 s1 c.rename.result (g.met.D.Disk.lawful c.args.disk.now) honest file (c.rename.ensures.effect honest) _ c.in_err-rename.was c.rename.ensures.which)

pub returns-clause-effect : goal.returns-clause-effect
returns-clause-effect g c honest root file =
    let s0 = g.D.Disk.state c.args.disk.now in
    let s1 = g.D.Disk.state c.rename.new.self in
    let s2 = g.D.Disk.state c.sync_folder.new.self in
    let h1 = c.rename.ensures.honest.0 honest in
    let h2 = c.sync_folder.ensures.honest.0 h1 in
    turned root s0 s1 c.rename.result (g.met.D.Disk.lawful c.args.disk.now) honest file (c.rename.ensures.effect honest)
    s2 c.sync_folder.result c.in_ok-rename.was (g.met.D.Disk.lawful c.rename.new.self) h1 (g.met.D.Disk.lawful c.sync_folder.new.self) h2
    c.sync_folder.ensures.which (c.sync_folder.ensures.effect h1)
