use Rattle.delta.proofs.Wrap.{wide_sum}
use Rattle.delta.proofs.integer.I64Integer.step.Goals as goal

pub returns : goal.returns
returns c = wide_sum c.args.self c.args.least c.args.number c.cast_signed.result c.ranges.self c.ranges.least c.ranges.number.fits c.cast_signed.ensures
