use Rattle.std.proofs.Common.{refl, ap, sym}
use Rattle.std.proofs.lemmas.Result.{on_ok_weaker}
use Rattle.schema.specs.Borrowed.{value_ref_view}
use Rattle.assemble.specs.Sinks.{single}
use Rattle.rowtext.specs.inner.Levels.{held, state_of, begun, text_at}
use Rattle.rowtext.proofs.RowSteps.{one_step, printed_more}
use Rattle.rowtext.proofs.row_text_sink.RowTextRowSink.value.Goals as goal

pub returns-in-Some : goal.returns-in-Some
returns-in-Some c =
    let s = state_of c.args.self.now in
    let b = state_of c.take_leaf.new.self in
    let v = value_ref_view c.args.value in
    let text = ap (λ o. text_at o v) (sym c.in-Some.ensures.slot) in
    record { shown = on_ok_weaker c.put_value.result (λ is. one_step c.args.self.now.plan.now c.take_leaf.new.self.plan.now s (held c.put_value.new.out.items b.starts b.here b.outer) (single v) c.take_leaf.ensures.same (printed_more b (begun s) c.put_value.new.out.items _ _ c.in-Some.ensures.begun is text)) c.put_value.ensures; base_stays = refl }
