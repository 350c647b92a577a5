use Rattle.vault.proofs.Steps.{reads_only}
use Rattle.vault.proofs.Turning.{root_housed, settles}
use Rattle.vault.proofs.vault.Vault.settle.Goals as goal

pub returns-in-Ok-clause-unchanged : goal.returns-in-Ok-clause-unchanged
returns-in-Ok-clause-unchanged g c honest =
    reads_only _ _ (c.make_firm.ensures.effect honest (root_housed _ (g.met.D.Disk.lawful c.args.self.now.disk) honest)).still

pub returns-in-Ok-clause-durable : goal.returns-in-Ok-clause-durable
returns-in-Ok-clause-durable g c honest rooted =
    let lawful = g.met.D.Disk.lawful c.args.self.now.disk in
    let made = c.in-Ok.ensures.effect honest (root_housed _ lawful honest) in
    settles _ _ lawful honest made.still rooted made.firm

pub returns-in-Err-clause-unchanged : goal.returns-in-Err-clause-unchanged
returns-in-Err-clause-unchanged g c honest =
    reads_only _ _ (c.make_firm.ensures.effect honest (root_housed _ (g.met.D.Disk.lawful c.args.self.now.disk) honest)).still
