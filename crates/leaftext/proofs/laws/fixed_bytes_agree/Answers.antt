use Rattle.leaftext.proofs.BytesTexts.{fixed_bytes_agree}
use Rattle.leaftext.proofs.laws.fixed_bytes_agree.Goals as goal

pub returns : goal.returns
returns c = fixed_bytes_agree
