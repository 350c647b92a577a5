use Rattle.std.proofs.Common.{arith, refl}
use Rattle.partition.proofs.Cutting.{cut_at, cut_nowhere, nothing_after}
use Rattle.partition.proofs.paths.cut_before.Goals as goal

pub returns-then-next-byte : goal.returns-then-next-byte
returns-then-next-byte c = cut_at c.args.byte c.args.text.now _ _ c.loop-i.i (omega arith) c.if-next-byte.true c.loop-i.invariant c.split_at.ensures.front c.split_at.ensures.back

pub returns : goal.returns
returns c = cut_nowhere c.args.byte c.args.text.now _ _ c.loop-i.i c.loop-i-test.false c.loop-i.auto.i-end c.loop-i.invariant refl (nothing_after c.args.text.now)
