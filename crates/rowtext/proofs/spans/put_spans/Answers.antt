use Rattle.rowtext.proofs.NamedMembers.{span_put}
use Rattle.rowtext.proofs.spans.put_spans.Goals as goal

pub loop-span-preserved : goal.loop-span-preserved
loop-span-preserved c =
    let l = c.loop-span in
    span_put c.args.read.now c.args.spans.now l.span-index _ c.args.pieces.now.items l.pieces.items c.put_span.new.pieces.items c.loop-span-test.true l.invariant c.in_ok-put_span.ensures.there c.in_ok-put_span.ensures.grows
