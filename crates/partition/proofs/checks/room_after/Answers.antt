use Rattle.std.proofs.Common.{arith}
use Rattle.partition.proofs.Escapes.{length_escaped_from, length_escaped_nil}
use Rattle.partition.proofs.checks.room_after.Goals as goal

pub loop-byte-preserved : goal.loop-byte-preserved
loop-byte-preserved c = omega (arith, length_escaped_from c.args.text.now c.loop-byte.byte-index (omega arith), c.escaped_size.ensures, c.in_ok-left.ensures)

pub returns-in_err-left : goal.returns-in_err-left
returns-in_err-left c = rw c.from_residual.ensures (omega (arith, c.in_err-left.ensures, length_escaped_from c.args.text.now c.loop-byte.byte-index (omega arith), c.loop-byte.invariant, c.escaped_size.ensures))

pub returns : goal.returns
returns c = omega (arith, length_escaped_nil c.args.text.now c.loop-byte.byte-index (omega arith), c.loop-byte.invariant)
