use Rattle.std.proofs.Common.{arith}
use Rattle.rowtext.proofs.DigitRuns.{pair_put, pairs_put}
use Rattle.rowtext.proofs.hex_digits.decode_digits.Goals as goal

pub loop-i-preserved : goal.loop-i-preserved
loop-i-preserved c = pair_put c.args.digits.now c.loop-i.bytes _ c.loop-i.i c.pair_value.result (omega arith) (omega arith) c.pair_value.ensures c.loop-i.invariant

pub returns : goal.returns
returns c = pairs_put c.args.digits.now c.loop-i.bytes c.loop-i.i (omega arith) (omega arith) c.loop-i.invariant
