use Rattle.upkeep.proofs.Filling.{some_map}
use Rattle.upkeep.proofs.columns.text_from.Goals as goal

pub returns-in-Some : goal.returns-in-Some
returns-in-Some c =
    some_map c.range_of.result _ _ (λ range is. record { size = c.in-Some.size; sized = c.in-Some.ensures; there = is.0; here = is.1 }) c.range_of.ensures
