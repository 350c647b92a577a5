use Rattle.std.proofs.Common.{refl}
use Rattle.assemble.specs.Sinks.{group_ends}
use Rattle.shred.specs.Buffer.{schema_of}
use Rattle.shred.proofs.ShownRows.{shown_more}
use Rattle.shred.proofs.DroppedRows.{same_base}
use Rattle.shred.proofs.row_buffer.RowBufferRowSink.end_group.Goals as goal

pub returns : goal.returns
returns c = record { shown = shown_more c.args.self.now _ group_ends refl refl c.end_group.ensures.shown; base_stays = same_base (schema_of c.args.self.now) c.args.self.now.count _ _ c.end_group.ensures.marked }
