use Rattle.std.proofs.Common.{refl, w64, ap, ◌∙◌}
use Rattle.std.proofs.Math.Facts.{to_z-of_z}
use Rattle.std.proofs.lemmas.Result.{on_ok_weaker}
use Rattle.schema.specs.Values.{integer}
use Rattle.assemble.proofs.BuiltRows.{shown_value, view_int}
use Rattle.assemble.proofs.row_builder.RowBuilderRowSink.int.Goals as goal

pub returns : goal.returns
returns c =
    let number = to_z-of_z {w = w64} {z = c.args.number} (record { sfits = c.ranges.number.sfits }) in
    record { shown = on_ok_weaker c.push.result (shown_value c.args.self.now c.push.new.self _ _ (view_int _ ∙ ap integer number)) c.push.ensures.gains; base_stays = refl }
