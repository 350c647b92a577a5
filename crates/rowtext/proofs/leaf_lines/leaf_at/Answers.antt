use Rattle.std.proofs.Common.{refl}
use Rattle.schema.specs.Views.{leaf_type_view}
use Rattle.rowtext.proofs.Turns.{leaf_taken}
use Rattle.rowtext.proofs.leaf_lines.leaf_at.Goals as goal

pub returns-then-end_value : goal.returns-then-end_value
returns-then-end_value c deep =
    leaf_taken c.args.texts (leaf_type_view c.args.leaf_type.now) deep c.args.line.now c.leaf_in_form.new.line c.end_value.new.self c.args.pieces.now.items c.leaf_in_form.new.pieces.items c.in_ok-leaf_in_form.ensures (c.if-end_value.ensures refl)
