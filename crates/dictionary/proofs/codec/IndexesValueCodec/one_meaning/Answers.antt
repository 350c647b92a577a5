use Rattle.dictionary.proofs.Pages.{page_functional}
use Rattle.dictionary.proofs.codec.IndexesValueCodec.one_meaning.Goals as goal

pub returns : goal.returns
returns c = page_functional c.args.self.now.size
