use Rattle.std.proofs.Common.{ap, refl, ◌∙◌, ◌∷◌, []}
use Rattle.assemble.specs.Sinks.{list_ends}
use Rattle.rowtext.specs.inner.Levels.{state_of, left}
use Rattle.rowtext.proofs.RowSteps.{one_step, printed_more}
use Rattle.rowtext.proofs.row_text_sink.RowTextRowSink.end_list.Goals as goal

pub returns : goal.returns
returns c =
    let s = state_of c.args.self.now in
    record { shown = one_step c.args.self.now.plan.now c.leave.new.self.plan.now s (state_of c.leave.new.self) list_ends c.leave.ensures.same (c.leave.ensures.left ∙ ap left (printed_more s s c.push.new.self.items (93 ∷ []) (93 ∷ []) refl c.in_ok-push.ensures.items refl)); base_stays = refl }
