use Rattle.std.proofs.Common.{◌++◌, subst, ap, ◌∙◌}
use Rattle.std.proofs.lemmas.Result.{on_ok_weaker}
use Rattle.schema.specs.Law.{IsSchema, IsWithinLimits}
use Rattle.assemble.specs.Sinks.{tokens_each}
use Rattle.rowtext.specs.inner.Pieces.{tokens_of}
use Rattle.rowtext.proofs.PrintedLines.{printed_row}
use Rattle.rowtext.proofs.read_plan.ReadPlan.put_printed.Goals as goal

pub returns : goal.returns
returns c =
    let valid = subst IsSchema c.self.view_is c.leaves.ensures.valid in
    let within = subst IsWithinLimits c.self.view_is c.leaves.ensures.within in
    on_ok_weaker c.printed.result (λ h. (h.0, (printed_row c.args.self.now h.0 c.args.text.now valid within h.1.0 h.1.1.0, h.1.1.1 ∙ ap (λ ps. tokens_of ps ++ tokens_each h.0) c.clear.ensures))) c.printed.ensures
