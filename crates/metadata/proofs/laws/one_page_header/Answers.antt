use Rattle.metadata.specs.FromTree.{page_header}
use Rattle.metadata.proofs.Reading.{one_record}
use Rattle.metadata.proofs.laws.one_page_header.Goals as goal

pub returns : goal.returns
returns c = one_record page_header c.one_struct.ensures
