use Rattle.std.proofs.Common.{List, ap, map, ◌∙◌}
use Rattle.schema.specs.Values.{views, member_at}
use Rattle.filter.specs.declared.test.Test.{Test as CodeTest}
use Rattle.filter.specs.Deciding.{holds}
use Rattle.filter.specs.Test.{Test, test_view}
use Rattle.filter.proofs.Renewing.{more_verdicts}
use Rattle.filter.proofs.filter.Filter.verdicts.Goals as goal

pub loop-terms-preserved : goal.loop-terms-preserved
loop-terms-preserved c =
    let leaves = views c.args.leaves.now in
    more_verdicts leaves c.deref-terms-items.result.now c.loop-terms.terms-index c.terms-item.result c.loop-terms-test.true c.terms-item.is
    c.loop-terms.ands.items c.push.new.self.items c.in_ok-verdicts_at.field-0 c.in_ok-push.ensures.items
    (c.in_ok-verdicts_at.ensures.stands ∙ ap (λ (ts : List CodeTest). map (λ (t : Test). holds t (member_at t.leaf leaves)) (map test_view ts)) c.as_slice.ensures.value)
    ∙ c.loop-terms.invariant
