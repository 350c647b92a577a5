use Rattle.std.proofs.Common.{suc, take, drop, arith, length-take-le}
use Rattle.commands.specs.inner.LineCuts.{ended}
use Rattle.commands.proofs.WholeLines.{feed_at, no_feed_more}
use Rattle.commands.proofs.line_cuts.line_length.Goals as goal

pub returns-then-byte-eq10-clause-is : goal.returns-then-byte-eq10-clause-is
returns-then-byte-eq10-clause-is c =
    let bytes = c.args.bytes.now in
    let i = c.loop-place.place in
    ended (take i bytes) (drop (suc i) bytes) c.loop-place.invariant (feed_at bytes i (omega (arith, c.loop-place-test.true)) (omega (arith, c.if-byte-eq10.true)))
    (omega (arith, length-take-le i bytes (omega (arith, c.loop-place-test.true))))

pub loop-place-preserved : goal.loop-place-preserved
loop-place-preserved c = no_feed_more c.args.bytes.now c.loop-place.place (omega (arith, c.loop-place-test.true)) c.loop-place.invariant (grind (arith, c.if-byte-eq10.false))
