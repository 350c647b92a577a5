use Rattle.metadata.proofs.Again.{file_meta_again}
use Rattle.metadata.proofs.laws.footer_again.Goals as goal

pub returns : goal.returns
returns c = file_meta_again
