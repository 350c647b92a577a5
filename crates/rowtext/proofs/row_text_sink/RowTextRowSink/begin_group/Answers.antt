use Rattle.std.proofs.Common.{refl, ◌≡◌, ap, ap₂, ◌∙◌, length, rules}
use Rattle.std.proofs.lemmas.Result.{on_ok_weaker}
use Rattle.assemble.specs.Sinks.{group_begins}
use Rattle.rowtext.specs.inner.Levels.{state_of, begun, entered, next_slot, inside}
use Rattle.rowtext.proofs.RowSteps.{one_step}
use Rattle.rowtext.proofs.row_text_sink.RowTextRowSink.begin_group.Goals as goal

pub returns : goal.returns
returns c =
    let s = state_of c.args.self.now in
    let b = state_of c.begin_value.new.self in
    let is : b ≡ begun s = c.in_ok-slot.ensures.begun in
    let text : c.len.result ≡ length c.begin_value.new.self.text.items = search rules in
    let starts : c.len-2.result ≡ length c.begin_value.new.self.starts.items = search rules in
    let sizes : inside (next_slot s.here) c.len.result c.len-2.result ≡ inside (next_slot s.here) (length (begun s).text) (length (begun s).starts) =
    ap₂ (inside (next_slot s.here)) (text ∙ ap (λ x. length x.text) is) (starts ∙ ap (λ x. length x.starts) is) in
    let within = c.inside-level.ensures c.begin_value.new.self.plan.now ∙ ap (λ o. inside o c.len.result c.len-2.result) c.in_ok-slot.ensures.slot ∙ sizes in
    record { shown = on_ok_weaker c.enter.result (λ new. one_step c.args.self.now.plan.now c.enter.new.self.plan.now s (state_of c.enter.new.self) group_begins (c.enter.ensures.same ∙ c.begin_value.ensures.same) (new ∙ ap₂ entered is within)) c.enter.ensures.entered; base_stays = refl }
