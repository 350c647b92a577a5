use Rattle.rowtext.proofs.MovedDigits.{cut_placed}
use Rattle.rowtext.proofs.place.cut_out.Goals as goal

pub returns-clause-rest : goal.returns-clause-rest
returns-clause-rest c = cut_placed c.args.buffer.now c.place_again.new.buffer c.args.from c.args.to c.args.len c.place_again.result c.requires.0 c.requires.1.0 c.place_again.ensures
