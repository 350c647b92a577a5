use Rattle.std.proofs.Common.{◌-◌, length, map}
use Rattle.hybrid_rle.proofs.Hybrids.{IsReading}
use Rattle.hybrid_rle.proofs.reading.decode.Given as goal

abbrev pub invariant-runs : goal.invariant-runs
invariant-runs g l = IsReading l.width l.bytes l.n (map g.T.Number.seen l.numbers.items) l.at

abbrev pub decreases-runs : goal.decreases-runs
decreases-runs g l = length l.bytes - l.at
