use Rattle.std.proofs.Common.{◌≡◌, ◌-◌, ◌++◌, map, take, replicate}
use Rattle.hybrid_rle.proofs.writing.eight_numbers.Given as goal

abbrev pub invariant-loop-i : goal.invariant-loop-i
invariant-loop-i g l = l.eight ≡ take l.i (map g.T.Number.seen l.numbers) ++ replicate (8 - l.i) 0
