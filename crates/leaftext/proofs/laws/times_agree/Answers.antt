use Rattle.leaftext.proofs.Times.{times_agree}
use Rattle.leaftext.proofs.laws.times_agree.Goals as goal

pub returns : goal.returns
returns c = times_agree
