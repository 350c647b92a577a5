use Rattle.leaftext.proofs.Timestamps.{timestamps_agree}
use Rattle.leaftext.proofs.laws.timestamps_agree.Goals as goal

pub returns : goal.returns
returns c = timestamps_agree
