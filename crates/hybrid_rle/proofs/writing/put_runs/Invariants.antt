use Rattle.std.proofs.Common.{◌-◌, length, map}
use Rattle.hybrid_rle.proofs.Putting.{IsWriting}
use Rattle.hybrid_rle.proofs.writing.put_runs.Given as goal

abbrev pub invariant-runs : goal.invariant-runs
invariant-runs g l = IsWriting l.width (map g.T.Number.seen l.numbers) l.fn.out.items l.out.items l.at

abbrev pub decreases-runs : goal.decreases-runs
decreases-runs g l = length l.numbers - l.at
