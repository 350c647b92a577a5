use Rattle.valuetext.proofs.TimestampTexts.{timestamps_read_back}
use Rattle.valuetext.proofs.laws.timestamps_read_back.Goals as goal

pub returns : goal.returns
returns c = timestamps_read_back
