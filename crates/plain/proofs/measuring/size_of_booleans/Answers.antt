use Rattle.std.proofs.Common.{arith}
use Rattle.plain.proofs.Places.{booleans_stand, boolean_end}
use Rattle.plain.proofs.measuring.size_of_booleans.Goals as goal

pub returns-clause-stands : goal.returns-clause-stands
returns-clause-stands c = booleans_stand c.args.bytes.now c.args.n c.div_ceil-size.result (omega (arith, c.div_ceil-size.ensures, c.if-size-bytes.false)) (omega (arith, c.div_ceil-size.ensures))

pub returns-clause-there : goal.returns-clause-there
returns-clause-there c = omega (arith, boolean_end c.args.n 0 c.args.bytes.now, c.div_ceil-size.ensures, c.if-size-bytes.false, c.ranges.n.fits)
