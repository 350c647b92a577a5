use Rattle.std.proofs.Common.{refl, ap, ◌∙◌}
use Rattle.std.proofs.lemmas.Result.{on_ok_weaker}
use Rattle.schema.specs.Values.{bytes}
use Rattle.assemble.proofs.BuiltRows.{shown_value, view_bytes}
use Rattle.assemble.proofs.row_builder.RowBuilderRowSink.bytes.Goals as goal

pub returns : goal.returns
returns c = record { shown = on_ok_weaker c.push.result (shown_value c.args.self.now c.push.new.self _ _ (view_bytes c.in_ok-from_slice.field-0 ∙ ap bytes c.in_ok-from_slice.ensures.items)) c.push.ensures.gains; base_stays = refl }
