use Rattle.leaftext.proofs.BytesTexts.{bytes_read_back}
use Rattle.leaftext.proofs.laws.bytes_read_back.Goals as goal

pub returns : goal.returns
returns c = bytes_read_back
