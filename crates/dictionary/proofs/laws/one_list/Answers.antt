use Rattle.dictionary.proofs.Pages.{page_functional}
use Rattle.dictionary.proofs.laws.one_list.Goals as goal

pub returns : goal.returns
returns c = page_functional
