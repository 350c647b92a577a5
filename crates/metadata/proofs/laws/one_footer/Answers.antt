use Rattle.metadata.specs.FromTree.{file_meta}
use Rattle.metadata.proofs.Reading.{one_record}
use Rattle.metadata.proofs.laws.one_footer.Goals as goal

pub returns : goal.returns
returns c = one_record file_meta c.one_struct.ensures
