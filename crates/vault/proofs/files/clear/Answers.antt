use Rattle.vault.proofs.Writing.{cleared, cleared_already}
use Rattle.vault.proofs.files.clear.Goals as goal

pub returns-in-Ok-clause-effect : goal.returns-in-Ok-clause-effect
returns-in-Ok-clause-effect g c honest = cleared _ _ _ _ c.requires (λ is. (cc is)) (c.in-Ok.ensures.effect honest)

pub returns-in_default-clause-effect : goal.returns-in_default-clause-effect
returns-in_default-clause-effect g c honest = cleared _ _ _ _ c.requires (λ is. c.in_default.not-Absent (cc is)) (c.in-Err.ensures.effect honest)

pub returns-in-Absent-clause-effect : goal.returns-in-Absent-clause-effect
returns-in-Absent-clause-effect g c honest = cleared_already _ _ _ _ c.requires (cc c.in-Err.is) (c.remove.ensures.effect honest)
