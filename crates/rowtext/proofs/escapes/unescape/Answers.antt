use Rattle.rowtext.specs.inner.Escapes.{unescape}
use Rattle.rowtext.proofs.Unescaping.{run_ends, run_more}
use Rattle.rowtext.proofs.escapes.unescape.Goals as goal

pub returns-in_default : goal.returns-in_default
returns-in_default c =
    run_ends c.rest.buffer.items c.rest.rest.now c.extend_from_slice.new.self.items (unescape c.args.content.now) c.plain_front-count.result c.plain_front-count.ensures.within c.plain_front-count.ensures.plain c.in_ok-extend_from_slice.ensures.items c.rest.invariant c.in_default.ensures

pub rest-preserved : goal.rest-preserved
rest-preserved c =
    run_more c.rest.buffer.items c.rest.rest.now c.extend_from_slice.new.self.items (unescape c.args.content.now) c.plain_front-count.result c.plain_front-count.ensures.within c.plain_front-count.ensures.plain c.in_ok-extend_from_slice.ensures.items c.rest.invariant c.push.new.self.items c.in-Some.byte c.in-Some.used c.in-Some.ensures.0 c.in_ok-push.ensures.items
