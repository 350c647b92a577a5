use Rattle.schema.proofs.FrontOrder.{grown_schemas_have_fronts}
use Rattle.schema.proofs.fronts_laws.grown_schemas_have_fronts.Goals as goal

pub returns : goal.returns
returns c = grown_schemas_have_fronts
