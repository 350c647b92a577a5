use Rattle.dictionary.proofs.Examples.{page_of_two, three_values, not_past_the_end, same_values, indexed_three}
use Rattle.dictionary.proofs.laws.worked_examples.Goals as goal

pub returns-clause-page : goal.returns-clause-page
returns-clause-page c = page_of_two

pub returns-clause-three : goal.returns-clause-three
returns-clause-three c = three_values

pub returns-clause-past_the_end : goal.returns-clause-past_the_end
returns-clause-past_the_end c = not_past_the_end

pub returns-clause-no_bits : goal.returns-clause-no_bits
returns-clause-no_bits c = same_values

pub returns-clause-built : goal.returns-clause-built
returns-clause-built c = indexed_three
