use Rattle.std.proofs.Common.{refl}
use Rattle.std.proofs.lemmas.Result.{on_ok_weaker}
use Rattle.assemble.specs.Sinks.{list_begins}
use Rattle.assemble.proofs.BuiltRows.{shown}
use Rattle.assemble.proofs.row_builder.RowBuilderRowSink.begin_list.Goals as goal

pub returns : goal.returns
returns c = record { shown = on_ok_weaker c.begin.result (shown c.args.self.now c.begin.new.self list_begins) c.begin.ensures.begins; base_stays = refl }
