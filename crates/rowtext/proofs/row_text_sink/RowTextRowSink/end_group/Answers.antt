use Rattle.std.proofs.Common.{refl, ap, ◌∙◌}
use Rattle.assemble.specs.Sinks.{group_ends}
use Rattle.rowtext.specs.inner.Levels.{state_of, left}
use Rattle.rowtext.proofs.RowSteps.{one_step}
use Rattle.rowtext.proofs.row_text_sink.RowTextRowSink.end_group.Goals as goal

pub returns : goal.returns
returns c =
    record { shown = one_step c.args.self.now.plan.now c.leave.new.self.plan.now (state_of c.args.self.now) (state_of c.leave.new.self) group_ends (c.leave.ensures.same ∙ c.close.ensures.same) (c.leave.ensures.left ∙ ap left c.in_ok-close.ensures.closed); base_stays = refl }
