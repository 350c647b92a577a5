use Rattle.footer.proofs.AskedDictionaries.{files_have}
use Rattle.footer.proofs.laws.chunks_have_the_dictionaries_asked_for.Goals as goal

pub returns : goal.returns
returns c = files_have
