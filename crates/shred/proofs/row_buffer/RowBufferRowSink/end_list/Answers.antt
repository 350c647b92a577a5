use Rattle.std.proofs.Common.{refl}
use Rattle.std.proofs.lemmas.Result.{on_ok_weaker}
use Rattle.assemble.specs.Sinks.{list_ends}
use Rattle.shred.specs.Buffer.{schema_of}
use Rattle.shred.proofs.ShownRows.{shown_more}
use Rattle.shred.proofs.DroppedRows.{same_base}
use Rattle.shred.proofs.row_buffer.RowBufferRowSink.end_list.Goals as goal

pub returns : goal.returns
returns c = record { shown = on_ok_weaker c.end_list.result (λ is. shown_more c.args.self.now _ list_ends refl refl is) c.end_list.ensures.shown; base_stays = same_base (schema_of c.args.self.now) c.args.self.now.count _ _ c.end_list.ensures.marked }
