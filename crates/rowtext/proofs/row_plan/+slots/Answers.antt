use Rattle.std.proofs.Common.{◌++◌, map, ap, sym, ◌∙◌, arith, append-nil}
use Rattle.std.proofs.lemmas.List.{drop_all}
use Rattle.schema.specs.Views.{field_view}
use Rattle.rowtext.specs.inner.Slots.{slot_view, slots_from, slot_as}
use Rattle.rowtext.proofs.RowPlans.{slots_seen}
use Rattle.rowtext.proofs.row_plan.+slots.Goals as goal

pub slots_of-returns : goal.slots_of-returns
slots_of-returns t c =
    let fs = c.args.fields.now in
    let made = map slot_view c.loop-field.slots.items in
    let none = ap (map (λ f. slot_as c.args.texts (field_view f))) (drop_all c.loop-field.field-index fs (omega arith)) in
    ap slots_from (sym (append-nil made) ∙ ap (λ r. made ++ r) (sym none) ∙ c.loop-field.invariant) ∙ slots_seen c.args.texts fs
