use Rattle.metadata.proofs.Again as again
use Rattle.metadata.proofs.laws.page_header_again.Goals as goal

pub returns : goal.returns
returns c = again.page_header_again
