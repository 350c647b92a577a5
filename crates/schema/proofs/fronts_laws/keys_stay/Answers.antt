use Rattle.schema.proofs.Grown.{keys_stay}
use Rattle.schema.proofs.fronts_laws.keys_stay.Goals as goal

pub returns : goal.returns
returns c = keys_stay
