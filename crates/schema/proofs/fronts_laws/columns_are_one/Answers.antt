use Rattle.schema.proofs.FrontOrder.{columns_are_one}
use Rattle.schema.proofs.fronts_laws.columns_are_one.Goals as goal

pub returns : goal.returns
returns c = columns_are_one
