use Rattle.std.proofs.Common.{◌<◌, subst, ◌∙◌}
use Rattle.rowtext.proofs.RowSteps.{brace_put}
use Rattle.rowtext.proofs.object_text.put_brace.Goals as goal

pub returns-then-from-len-clause-items : goal.returns-then-from-len-clause-items
returns-then-from-len-clause-items c = c.set.ensures.items ∙ brace_put c.args.text.now.items c.args.from (subst (λ n. c.args.from < n) c.len.ensures c.if-from-len.true)
