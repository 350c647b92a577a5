use Rattle.std.proofs.Common.{refl}
use Rattle.std.proofs.lemmas.Result.{on_ok_weaker}
use Rattle.assemble.proofs.BuiltRows.{shown_value}
use Rattle.assemble.proofs.row_builder.RowBuilderRowSink.value.Goals as goal

pub returns-in-Ok : goal.returns-in-Ok
returns-in-Ok c = record { shown = on_ok_weaker c.push.result (shown_value c.args.self.now c.push.new.self _ _ c.in-Ok.ensures.same) c.push.ensures.gains; base_stays = refl }
