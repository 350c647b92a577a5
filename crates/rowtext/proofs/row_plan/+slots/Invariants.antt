use Rattle.std.proofs.Common.{◌≡◌, ◌++◌, map, drop}
use Rattle.schema.specs.Views.{field_view}
use Rattle.rowtext.specs.inner.Slots.{slot_view, slot_as}
use Rattle.rowtext.proofs.row_plan.+slots.Given as goal

abbrev pub invariant-slots_of-loop-field : goal.invariant-slots_of-loop-field
invariant-slots_of-loop-field l = map slot_view l.slots.items ++ map (λ f. slot_as l.texts (field_view f)) (drop l.field-index l.fields) ≡ map (λ f. slot_as l.texts (field_view f)) l.fields
