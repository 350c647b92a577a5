use Rattle.std.proofs.Common.{arith, map, drop, sym, ◌∙◌}
use Rattle.schema.specs.Borrowed.{value_ref_view}
use Rattle.filter.specs.Test.{test_view}
use Rattle.filter.specs.inner.Judging.{verdict}
use Rattle.filter.proofs.Renewing.{renew_short}
use Rattle.filter.proofs.judging.look_in_one.Goals as goal

pub returns-then-i-len : goal.returns-then-i-len
returns-then-i-len c = sym (renew_short (verdict c.args.leaf (value_ref_view c.args.value)) (map test_view (drop c.loop-i.i c.args.terms.now)) c.loop-i.verdicts.items c.loop-i.i (let t = c.if-i-len.true in let e = c.len.ensures in let o = c.loop-i.verdicts.ok.0 in omega (arith, t, e, o))) ∙ c.loop-i.invariant
