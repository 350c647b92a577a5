use Rattle.vault.proofs.Calls.{put_done, put_refused}
use Rattle.vault.proofs.vault.Vault.put.Goals as goal

pub returns-in-Ok-clause-effect : goal.returns-in-Ok-clause-effect
returns-in-Ok-clause-effect g c can =
    put_done c.args.path.now c.args.bytes.now _ _ can.1 (c.in-Ok.ensures.effect can.0 (λ d may. (can.1 d may).open_way))

pub returns-in-Err-clause-effect : goal.returns-in-Err-clause-effect
returns-in-Err-clause-effect g c can =
    put_refused c.args.path.now c.args.bytes.now _ _ can.1 c.in-Err.e _ c.refusal_of.ensures (c.in-Err.ensures.effect can.0 (λ d may. (can.1 d may).open_way))
    (g.met.D.Disk.lawful c.args.self.now.disk) can.0 c.in-Err.ensures.counts
