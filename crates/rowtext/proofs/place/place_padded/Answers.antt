use Rattle.std.proofs.Common.{arith}
use Rattle.rowtext.proofs.MovedDigits.{front_placed}
use Rattle.rowtext.proofs.place.place_padded.Goals as goal

pub returns : goal.returns
returns c = front_placed c.args.buffer.now c.place_front.new.buffer c.args.text.now c.args.at c.args.len 16 c.place_front.result (omega (arith, c.requires.fits)) c.requires.padded.0 c.requires.padded.1 c.place_front.ensures
