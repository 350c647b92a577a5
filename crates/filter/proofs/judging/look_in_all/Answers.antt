use Rattle.std.proofs.Common.{List, drop, get_or, map, sym, ◌∙◌, ap}
use Rattle.schema.specs.Borrowed.{value_ref_view}
use Rattle.filter.specs.Test.{ands_view, test_view}
use Rattle.filter.specs.declared.test.Test.{Test as CodeTest}
use Rattle.filter.specs.inner.Judging.{judged_terms}
use Rattle.filter.proofs.Renewing.{short_views, next_views}
use Rattle.filter.proofs.judging.look_in_all.Goals as goal

pub returns-then-i-verdicts : goal.returns-then-i-verdicts
returns-then-i-verdicts c = sym (short_views c.args.leaf (value_ref_view c.args.value) (ands_view (drop c.loop-i.i c.args.ands.now)) c.loop-i.verdicts c.loop-i.i c.if-i-verdicts.true) ∙ c.loop-i.invariant

pub loop-i-preserved : goal.loop-i-preserved
loop-i-preserved c =
    let n = c.args.leaf in
    let v = value_ref_view c.args.value in
    let i = c.loop-i.i in
    let b = c.index-verdicts-i.result in
    next_views n v c.args.ands.now c.loop-i.verdicts i c.index-ands-i.result b c.loop-i-test.true c.if-i-verdicts.false
    c.index-ands-i.is c.look_in_one.new.verdicts (c.look_in_one.ensures ∙ ap (λ (ts : List CodeTest). judged_terms n v (map test_view ts) (get_or c.loop-i.verdicts i b).items) c.as_slice.ensures.value) ∙ c.loop-i.invariant
