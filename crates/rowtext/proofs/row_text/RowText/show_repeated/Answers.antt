use Rattle.std.proofs.Common.{ap}
use Rattle.std.proofs.lemmas.Result.{on_ok_weaker}
use Rattle.schema.specs.Borrowed.{value_ref_view}
use Rattle.assemble.specs.Sinks.{single}
use Rattle.rowtext.specs.inner.Levels.{held, state_of, begun, text_at}
use Rattle.rowtext.proofs.RowSteps.{one_step, printed_more}
use Rattle.rowtext.proofs.row_text.RowText.show_repeated.Goals as goal

pub returns : goal.returns
returns c =
    let s = state_of c.args.self.now in
    let b = state_of c.begin_value.new.self in
    let v = value_ref_view c.args.value in
    let text = ap (λ o. text_at o v) c.in_ok-slot.ensures.slot in
    record { shown = on_ok_weaker c.put_single.result (λ is. one_step c.args.self.now.plan.now c.begin_value.new.self.plan.now s (held c.put_single.new.out.items b.starts b.here b.outer) (single v) c.begin_value.ensures.same (printed_more b (begun s) c.put_single.new.out.items _ _ c.in_ok-slot.ensures.begun is text)) c.put_single.ensures }
