use Rattle.leaftext.proofs.FormTexts.{forms_read_back}
use Rattle.leaftext.proofs.laws.forms_read_back.Goals as goal

pub returns : goal.returns
returns c = forms_read_back
