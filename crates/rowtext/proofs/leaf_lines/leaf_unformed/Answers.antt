use Rattle.std.proofs.Common.{refl}
use Rattle.std.proofs.lemmas.Result.{on_ok_weaker}
use Rattle.schema.specs.Views.{leaf_type_view}
use Rattle.rowtext.proofs.LeafLines.{leaf_line}
use Rattle.rowtext.proofs.leaf_lines.leaf_unformed.Goals as goal

pub returns : goal.returns
returns c =
    on_ok_weaker c.leaf_printed.result
    (leaf_line _ (leaf_type_view c.args.leaf_type.now) c.args.line.now c.leaf_printed.new.line c.args.pieces.now.items c.leaf_printed.new.pieces.items refl) c.leaf_printed.ensures
