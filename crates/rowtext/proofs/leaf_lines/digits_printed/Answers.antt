use Rattle.std.proofs.lemmas.Result.{on_ok_weaker}
use Rattle.schema.specs.Views.{leaf_type_view}
use Rattle.rowtext.proofs.LinePieces.{string_read}
use Rattle.rowtext.proofs.leaf_lines.digits_printed.Goals as goal

pub returns : goal.returns
returns c =
    on_ok_weaker c.put_digits.result (string_read (leaf_type_view c.args.leaf_type.now) c.in-Some.digits.now c.args.line.now c.string.new.self c.args.pieces.now.items c.put_digits.new.pieces.items c.in-Some.ensures) c.put_digits.ensures
