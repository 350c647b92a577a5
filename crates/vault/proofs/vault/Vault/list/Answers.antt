use Rattle.vault.proofs.Steps.{reads_only}
use Rattle.vault.proofs.vault.Vault.list.Goals as goal

pub returns-in-Ok-clause-unchanged : goal.returns-in-Ok-clause-unchanged
returns-in-Ok-clause-unchanged g c honest = reads_only _ _ (c.list.ensures.effect honest).still

pub returns-in-Err-clause-unchanged : goal.returns-in-Err-clause-unchanged
returns-in-Err-clause-unchanged g c honest = reads_only _ _ (c.list.ensures.effect honest).still
