use Rattle.std.proofs.Common.{refl}
use Rattle.std.proofs.lemmas.Result.{on_ok_weaker}
use Rattle.schema.specs.Borrowed.{value_ref_view}
use Rattle.assemble.specs.Sinks.{single}
use Rattle.shred.specs.Buffer.{schema_of}
use Rattle.shred.proofs.ShownRows.{shown_more}
use Rattle.shred.proofs.DroppedRows.{same_base}
use Rattle.shred.proofs.row_buffer.RowBufferRowSink.value.Goals as goal

pub returns : goal.returns
returns c = record { shown = on_ok_weaker c.value.result (λ is. shown_more c.args.self.now _ (single (value_ref_view c.args.value)) refl refl is) c.value.ensures.shown; base_stays = same_base (schema_of c.args.self.now) c.args.self.now.count _ _ c.value.ensures.marked }
