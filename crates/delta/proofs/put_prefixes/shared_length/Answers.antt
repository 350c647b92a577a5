use Rattle.std.proofs.Common.{arith}
use Rattle.delta.proofs.Sharing.{shared_ends}
use Rattle.delta.proofs.put_prefixes.shared_length.Goals as goal

pub returns : goal.returns
returns c =
    let i = c.loop-i.i in
    omega (arith, shared_ends c.args.before.now c.args.value.now i (omega (arith, c.loop-i-test.false, c.loop-i.auto.i-end, c.min-most.ensures)) c.loop-i.invariant, c.loop-i-test.false, c.loop-i.auto.i-end)
