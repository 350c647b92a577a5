use Rattle.thrift_compact.proofs.Steps.{step_of}
use Rattle.thrift_compact.proofs.heads.short_step.Goals as goal

pub returns-then-step-le15 : goal.returns-then-step-le15
returns-then-step-le15 c = step_of c.args.previous c.args.id c.from.result c.from-2.result c.ranges.previous c.ranges.id c.from.ensures c.from-2.ensures c.if-step-ge1.true c.if-step-le15.true
