use Rattle.hybrid_rle.proofs.Examples.{not_nine, not_past_the_cut, too_wide}
use Rattle.hybrid_rle.proofs.laws.worked_examples.Goals as goal

pub returns-clause-nine : goal.returns-clause-nine
returns-clause-nine c = not_nine

pub returns-clause-past_the_cut : goal.returns-clause-past_the_cut
returns-clause-past_the_cut c = not_past_the_cut

pub returns-clause-too_wide : goal.returns-clause-too_wide
returns-clause-too_wide c = too_wide
