use Rattle.leaftext.proofs.Decimals.{decimals_agree}
use Rattle.leaftext.proofs.laws.decimals_agree.Goals as goal

pub returns : goal.returns
returns c = decimals_agree
