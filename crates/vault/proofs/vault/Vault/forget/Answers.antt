use Rattle.vault.proofs.Calls.{forget_done, forget_refused}
use Rattle.vault.proofs.vault.Vault.forget.Goals as goal

pub returns-in-Ok-clause-effect : goal.returns-in-Ok-clause-effect
returns-in-Ok-clause-effect g c honest = forget_done c.args.path.now _ _ (c.in-Ok.ensures.effect honest)

pub returns-in-Err-clause-effect : goal.returns-in-Err-clause-effect
returns-in-Err-clause-effect g c honest = forget_refused c.args.path.now _ _ c.in-Err.e _ c.refusal_of.ensures (c.in-Err.ensures.effect honest) c.in-Err.ensures.counts
