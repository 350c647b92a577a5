use Rattle.std.proofs.Common.{refl}
use Rattle.gather.proofs.CutShowing.{cut_begins}
use Rattle.gather.proofs.cut_row.CutRow.restart.Goals as goal

pub returns-clause-begins : goal.returns-clause-begins
returns-clause-begins c = λ columns many. cut_begins columns _ many refl refl c.clear.ensures.emptied
