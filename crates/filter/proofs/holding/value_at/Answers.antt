use Rattle.std.proofs.Common.{sym, ◌∙◌, ◌+◌, drop}
use Rattle.filter.specs.Test.{way_view}
use Rattle.filter.proofs.Members.{value_at-drop, value_at_null}
use Rattle.filter.proofs.holding.value_at.Goals as goal

pub loop-step-preserved : goal.loop-step-preserved
loop-step-preserved c = sym (value_at-drop c.args.steps.now c.loop-step.step-index _ _ _ c.loop-step-test.true (sym c.in-Some.ensures)) ∙ c.loop-step.invariant

pub returns-in-None : goal.returns-in-None
returns-in-None c = sym c.loop-step.invariant ∙ value_at-drop c.args.steps.now c.loop-step.step-index _ _ _ c.loop-step-test.true c.in-None.ensures ∙ value_at_null (way_view (drop (c.loop-step.step-index + 1) c.args.steps.now))
