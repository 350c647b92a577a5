use Rattle.std.proofs.Common.{refl, ap, sym}
use Rattle.std.proofs.lemmas.Result.{on_ok_weaker}
use Rattle.schema.specs.Values.{bytes}
use Rattle.assemble.specs.Sinks.{single}
use Rattle.rowtext.specs.inner.Levels.{held, state_of, begun, text_at}
use Rattle.rowtext.proofs.RowSteps.{one_step, printed_more}
use Rattle.rowtext.proofs.row_text_sink.RowTextRowSink.bytes.Goals as goal

pub returns-in-Some : goal.returns-in-Some
returns-in-Some c =
    let s = state_of c.args.self.now in
    let b = state_of c.take_leaf.new.self in
    let v = bytes c.args.text.now in
    let text = ap (λ o. text_at o v) (sym c.in-Some.ensures.slot) in
    record { shown = on_ok_weaker c.place_bytes.result (λ is. one_step c.args.self.now.plan.now c.take_leaf.new.self.plan.now s (held c.place_bytes.new.out.items b.starts b.here b.outer) (single v) c.take_leaf.ensures.same (printed_more b (begun s) c.place_bytes.new.out.items _ _ c.in-Some.ensures.begun is text)) c.place_bytes.ensures; base_stays = refl }
