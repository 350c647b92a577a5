use Rattle.std.proofs.Common.{◌-◌, arith}
use Rattle.jiff_fmt.proofs.ReaderLemmas.{ten_pow-pos}
use Rattle.valuetext.proofs.times.is_in_places.Goals as goal

pub nonzero_rem-time : goal.nonzero_rem-time
nonzero_rem-time c = omega (arith, ten_pow-pos (9 - c.args.places))
