use Rattle.std.proofs.Common.{◌++◌, ap, ◌∙◌}
use Rattle.schema.specs.Shape.{name_of}
use Rattle.schema.specs.Views.{field_view}
use Rattle.rowtext.specs.inner.Slots.{slot_view}
use Rattle.rowtext.proofs.Lexing.{key_read}
use Rattle.rowtext.proofs.LinePieces.{slot_name}
use Rattle.rowtext.proofs.row_lines.skip_key.Goals as goal

pub returns-clause-taken : goal.returns-clause-taken
returns-clause-taken c held =
    let f = field_view c.args.field.now in
    let t = c.skip_text.ensures.taken held in
    let name = slot_name f (slot_view c.args.slot.now) c.in-Some._comma c.key.result.now c.in-Some.name.now c.requires c.key.ensures c.in-Some.ensures in
    key_read (name_of f) c.args.line.now c.skip_text.new.self t.0 (t.1 ∙ ap (λ s. s ++ t.0) name) t.2
