use Rattle.dictionary.proofs.Pages.{values_functional}
use Rattle.dictionary.proofs.laws.one_list_of_values.Goals as goal

pub returns : goal.returns
returns c = values_functional
