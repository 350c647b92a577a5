use Rattle.thrift_compact.proofs.Least.{no_spelling_is_shorter}
use Rattle.thrift_compact.proofs.laws.no_spelling_is_shorter.Goals as goal

pub returns : goal.returns
returns c = no_spelling_is_shorter
