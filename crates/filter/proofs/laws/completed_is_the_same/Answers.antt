use Rattle.filter.proofs.Completing.{completed_is_the_same}
use Rattle.filter.proofs.laws.completed_is_the_same.Goals as goal

pub returns : goal.returns
returns c = completed_is_the_same
