use Rattle.valuetext.proofs.DecimalTexts.{decimals_read_back}
use Rattle.valuetext.proofs.laws.decimals_read_back.Goals as goal

pub returns : goal.returns
returns c = decimals_read_back
