use Rattle.dictionary.proofs.OneDictionary.{one_indexing}
use Rattle.dictionary.proofs.laws.one_dictionary.Goals as goal

pub returns : goal.returns
returns c = one_indexing
