use Rattle.std.proofs.Common.{refl}
use Rattle.program.proofs.host.text_of.Goals as goal

pub returns-in-Err-clause-which : goal.returns-in-Err-clause-which
returns-in-Err-clause-which c = (refl, c.in-Err.ensures)
