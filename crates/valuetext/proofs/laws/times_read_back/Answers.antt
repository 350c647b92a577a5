use Rattle.valuetext.proofs.TimeTexts.{times_read_back}
use Rattle.valuetext.proofs.laws.times_read_back.Goals as goal

pub returns : goal.returns
returns c = times_read_back
