use Rattle.upkeep.proofs.Filling.{some_map}
use Rattle.upkeep.proofs.columns.text_of.Goals as goal

pub returns : goal.returns
returns c = some_map c.text_from.result _ _ (λ text is. (c.in-Ok.start, c.in-Ok.ensures.stands, is)) c.text_from.ensures
