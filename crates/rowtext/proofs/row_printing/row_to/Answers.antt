use Rattle.std.proofs.Common.{false, ◌++◌, List, ℕ, sym, ap, ◌∙◌}
use Rattle.schema.specs.Views.{row_view}
use Rattle.rowtext.specs.Json.{row_text}
use Rattle.rowtext.specs.inner.Slots.{slots_view, slots_made, order_of, order_view, vec_items}
use Rattle.std.specs.Prelude.{option_map}
use Rattle.rowtext.proofs.KeptTexts.{row_printed}
use Rattle.rowtext.proofs.row_printing.row_to.Goals as goal

pub returns-clause-stands : goal.returns-clause-stands
returns-clause-stands c =
    let fs = c.args.schema.now in
    let plan = c.in_ok-plan.plan in
    let ready = c.in_ok-plan.ensures.ready in
    let same = c.in_ok-plan.ensures.prints in
    let row = c.args.row.now in
    let printed = row_printed false fs (slots_view c.slots.result.now) (slots_view plan.slots.items) (order_view c.order.result) (option_map vec_items plan.order) c.as_slice.result.now row.values.items c.new-text.result.items c.put_object.new.out.items
    c.in_ok-put_object.ensures (ap slots_view c.slots.ensures) (ready.0 ∙ ap slots_made same) c.order.ensures (ready.1 ∙ ap order_of same) c.as_slice.ensures.value (sym c.fits.ensures ∙ c.if-not-fits.false) in
    c.in_ok-text_from.ensures ∙ c.into_vec.ensures ∙ printed ∙ ap (λ (s : List ℕ). s ++ row_text fs (row_view row)) c.new-text.ensures
