use Rattle.std.proofs.Common.{refl, ℤ, w64, ap, sym, ◌∙◌}
use Rattle.std.proofs.Math.Facts.{to_z-of_z}
use Rattle.std.proofs.lemmas.Result.{on_ok_weaker}
use Rattle.schema.specs.Values.{integer}
use Rattle.assemble.specs.Sinks.{single}
use Rattle.rowtext.specs.inner.Scalars.{integer_text}
use Rattle.rowtext.specs.inner.Levels.{held, state_of, begun, text_at}
use Rattle.rowtext.proofs.RowSteps.{one_step, printed_more}
use Rattle.rowtext.proofs.row_text_sink.RowTextRowSink.int.Goals as goal

pub returns-in-Some : goal.returns-in-Some
returns-in-Some c =
    let s = state_of c.args.self.now in
    let b = state_of c.take_leaf.new.self in
    let v = integer c.args.number in
    let same = ap (λ (z : ℤ). integer_text c.in-Some.leaf.numbers z) (to_z-of_z {w = w64} {z = c.args.number} (record { sfits = c.ranges.number.sfits })) in
    let text = same ∙ ap (λ o. text_at o v) (sym c.in-Some.ensures.slot) in
    record { shown = on_ok_weaker c.end_with_number.result (λ is. one_step c.args.self.now.plan.now c.take_leaf.new.self.plan.now s (held c.end_with_number.new.out.items b.starts b.here b.outer) (single v) c.take_leaf.ensures.same (printed_more b (begun s) c.end_with_number.new.out.items _ _ c.in-Some.ensures.begun is text)) c.end_with_number.ensures; base_stays = refl }
