use Rattle.schema.specs.Shape.{name_of}
use Rattle.schema.specs.Views.{field_view}
use Rattle.rowtext.proofs.Filling.{called_there}
use Rattle.rowtext.proofs.LinePieces.{slot_there}
use Rattle.rowtext.proofs.row_lines.skip_name.Goals as goal

pub skip_key-requires : goal.skip_key-requires
skip_key-requires c =
    let f = c.in-Ok.ensures in
    let s = c.in-Ok-slot_there.ensures in
    slot_there c.args.fields.now c.args.slots.now c.args.index c.in-Ok.field.now c.in-Ok-slot_there.slot.now c.requires f.0 s.0 f.1 s.1

pub returns-clause-taken : goal.returns-clause-taken
returns-clause-taken c held =
    let f = c.in-Ok.field.now in
    (name_of (field_view f), called_there c.args.fields.now c.args.index f c.in-Ok.ensures.0 c.in-Ok.ensures.1, c.skip_key.ensures.taken held)
