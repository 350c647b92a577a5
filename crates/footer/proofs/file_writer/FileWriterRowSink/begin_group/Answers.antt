use Rattle.std.proofs.Common.{refl}
use Rattle.std.proofs.lemmas.Result.{on_ok_weaker}
use Rattle.assemble.specs.Sinks.{group_begins}
use Rattle.footer.proofs.ShownWriter.{shown_more}
use Rattle.footer.proofs.DroppedRow.{same_base}
use Rattle.footer.proofs.file_writer.FileWriterRowSink.begin_group.Goals as goal

pub returns : goal.returns
returns c = record { shown = on_ok_weaker c.begin_group.result (λ adds. shown_more c.args.self.now _ group_begins refl refl refl refl adds) c.begin_group.ensures.shown; base_stays = same_base c.args.self.now _ _ c.begin_group.ensures.base_stays }
