use Rattle.schema.proofs.Grown.{fronts_stay}
use Rattle.schema.proofs.fronts_laws.fronts_stay.Goals as goal

pub returns : goal.returns
returns c = fronts_stay
