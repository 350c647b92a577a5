use Rattle.std.specs.Int.{w32}
use Rattle.std.proofs.lemmas.Int.{wrapping_sub_is}
use Rattle.delta.proofs.integer.narrow_difference.Goals as goal

pub returns : goal.returns
returns c = wrapping_sub_is w32 c.args.a c.args.b c.ranges.a c.ranges.b
