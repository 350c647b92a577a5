use Rattle.schema.proofs.FrontOrder.{fronts_of_fronts}
use Rattle.schema.proofs.fronts_laws.fronts_of_fronts.Goals as goal

pub returns : goal.returns
returns c = fronts_of_fronts
