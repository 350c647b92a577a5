use Rattle.std.proofs.lemmas.Result.{on_ok_weaker}
use Rattle.schema.specs.Views.{leaf_type_view}
use Rattle.rowtext.proofs.LeafLines.{integer_shown}
use Rattle.rowtext.proofs.leaf_lines.leaf_printed.Goals as goal

pub returns-in-Int32 : goal.returns-in-Int32
returns-in-Int32 c =
    on_ok_weaker c.integer_printed.result
    (integer_shown (leaf_type_view c.args.leaf_type.now) c.args.line.now c.integer_printed.new.line c.args.pieces.now.items c.integer_printed.new.pieces.items) c.integer_printed.ensures
