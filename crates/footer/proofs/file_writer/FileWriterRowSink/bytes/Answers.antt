use Rattle.std.proofs.Common.{refl}
use Rattle.std.proofs.lemmas.Result.{on_ok_weaker}
use Rattle.schema.specs.Values.{bytes}
use Rattle.assemble.specs.Sinks.{single}
use Rattle.footer.proofs.ShownWriter.{shown_more}
use Rattle.footer.proofs.DroppedRow.{same_base}
use Rattle.footer.proofs.file_writer.FileWriterRowSink.bytes.Goals as goal

pub returns : goal.returns
returns c = record { shown = on_ok_weaker c.bytes.result (λ adds. shown_more c.args.self.now _ (single (bytes c.args.text.now)) refl refl refl refl adds) c.bytes.ensures.shown; base_stays = same_base c.args.self.now _ _ c.bytes.ensures.base_stays }
