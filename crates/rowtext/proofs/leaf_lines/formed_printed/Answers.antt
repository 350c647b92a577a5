use Rattle.std.proofs.lemmas.Result.{on_ok_weaker}
use Rattle.schema.specs.Views.{leaf_type_view}
use Rattle.rowtext.proofs.LeafLines.{integer_line, formed_line}
use Rattle.rowtext.proofs.leaf_lines.formed_printed.Goals as goal

pub returns-then-not-is_string : goal.returns-then-not-is_string
returns-then-not-is_string c =
    on_ok_weaker c.integer_printed.result
    (integer_line c.args.form (leaf_type_view c.args.leaf_type.now) c.args.line.now c.integer_printed.new.line c.args.pieces.now.items c.integer_printed.new.pieces.items) c.integer_printed.ensures

pub returns : goal.returns
returns c =
    on_ok_weaker c.put_formed.result
    (formed_line c.args.form (leaf_type_view c.args.leaf_type.now) c.in-Some.text.now c.args.line.now c.string.new.self c.args.pieces.now.items c.put_formed.new.pieces.items c.in-Some.ensures) c.put_formed.ensures
