use Rattle.leaftext.proofs.BytesTexts.{shortest_bytes_agree}
use Rattle.leaftext.proofs.laws.shortest_bytes_agree.Goals as goal

pub returns : goal.returns
returns c = shortest_bytes_agree
