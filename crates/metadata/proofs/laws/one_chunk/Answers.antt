use Rattle.metadata.specs.FromTree.{chunk_meta}
use Rattle.metadata.proofs.Reading.{one_record}
use Rattle.metadata.proofs.laws.one_chunk.Goals as goal

pub returns : goal.returns
returns c = one_record chunk_meta c.one_struct.ensures
