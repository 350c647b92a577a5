use Rattle.std.proofs.Common.{refl}
use Rattle.std.proofs.lemmas.Result.{on_ok_weaker}
use Rattle.assemble.specs.Sinks.{group_ends}
use Rattle.footer.proofs.ShownWriter.{shown_more}
use Rattle.footer.proofs.DroppedRow.{same_base}
use Rattle.footer.proofs.file_writer.FileWriterRowSink.end_group.Goals as goal

pub returns : goal.returns
returns c = record { shown = on_ok_weaker c.end_group.result (λ adds. shown_more c.args.self.now _ group_ends refl refl refl refl adds) c.end_group.ensures.shown; base_stays = same_base c.args.self.now _ _ c.end_group.ensures.base_stays }
