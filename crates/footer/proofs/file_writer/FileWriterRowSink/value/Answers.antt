use Rattle.std.proofs.Common.{refl}
use Rattle.std.proofs.lemmas.Result.{on_ok_weaker}
use Rattle.schema.specs.Borrowed.{value_ref_view}
use Rattle.assemble.specs.Sinks.{single}
use Rattle.footer.proofs.ShownWriter.{shown_more}
use Rattle.footer.proofs.DroppedRow.{same_base}
use Rattle.footer.proofs.file_writer.FileWriterRowSink.value.Goals as goal

pub returns : goal.returns
returns c = record { shown = on_ok_weaker c.value.result (λ adds. shown_more c.args.self.now _ (single (value_ref_view c.args.value)) refl refl refl refl adds) c.value.ensures.shown; base_stays = same_base c.args.self.now _ _ c.value.ensures.base_stays }
