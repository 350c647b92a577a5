use Rattle.std.proofs.Common.{refl}
use Rattle.std.proofs.lemmas.Result.{on_ok_weaker}
use Rattle.assemble.specs.Sinks.{list_begins}
use Rattle.shred.specs.Buffer.{schema_of}
use Rattle.shred.proofs.ShownRows.{shown_more}
use Rattle.shred.proofs.DroppedRows.{same_base}
use Rattle.shred.proofs.row_buffer.RowBufferRowSink.begin_list.Goals as goal

pub returns : goal.returns
returns c = record { shown = on_ok_weaker c.begin_list.result (λ is. shown_more c.args.self.now _ list_begins refl refl is) c.begin_list.ensures.shown; base_stays = same_base (schema_of c.args.self.now) c.args.self.now.count _ _ c.begin_list.ensures.marked }
