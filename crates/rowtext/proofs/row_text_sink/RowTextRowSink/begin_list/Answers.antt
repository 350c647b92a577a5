use Rattle.std.proofs.Common.{◌≡◌, ap, ap₂, refl, ◌∷◌, [], false, ◌∙◌}
use Rattle.assemble.specs.Sinks.{list_begins}
use Rattle.rowtext.specs.inner.Levels.{entered, items, state_of, begun, next_slot}
use Rattle.rowtext.proofs.RowSteps.{one_step, printed_more}
use Rattle.rowtext.proofs.row_text_sink.RowTextRowSink.begin_list.Goals as goal

pub returns : goal.returns
returns c =
    let s = state_of c.args.self.now in
    let is : state_of c.begin_value.new.self ≡ begun s = c.in_ok-slot.ensures.begun in
    let within = ap (λ o. items o false) c.in_ok-slot.ensures.slot in
    let around = c.in_ok-enter.ensures.entered ∙ ap₂ entered is within in
    record { shown = one_step c.args.self.now.plan.now c.enter.new.self.plan.now s _ list_begins (c.enter.ensures.same ∙ c.begin_value.ensures.same) (printed_more (state_of c.enter.new.self) (entered (begun s) (items (next_slot s.here) false)) c.push.new.self.items (91 ∷ []) (91 ∷ []) around c.in_ok-push.ensures.items refl); base_stays = refl }
