use Rattle.std.proofs.Common.{map}
use Rattle.hybrid_rle.proofs.Putting.{IsGathering}
use Rattle.hybrid_rle.proofs.writing.put_packed.Given as goal

abbrev pub invariant-loop-group : goal.invariant-loop-group
invariant-loop-group g l = IsGathering l.width (map g.T.Number.seen l.numbers) l.fn.out.items l.out.items l.group
