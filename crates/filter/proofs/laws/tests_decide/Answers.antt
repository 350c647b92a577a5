use Rattle.filter.proofs.Relations.{satisfies_is}
use Rattle.filter.proofs.laws.tests_decide.Goals as goal

pub returns : goal.returns
returns c = satisfies_is
