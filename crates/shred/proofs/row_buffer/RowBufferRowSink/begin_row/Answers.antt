use Rattle.std.proofs.Common.{refl}
use Rattle.shred.specs.Buffer.{schema_of}
use Rattle.shred.proofs.ShownRows.{as_many_kept}
use Rattle.shred.proofs.DroppedRows.{held_same, marked_at, begins, whole_marked, shown_same}
use Rattle.shred.proofs.row_buffer.RowBufferRowSink.begin_row.Goals as goal

pub returns-clause-whole : goal.returns-clause-whole
returns-clause-whole c = whole_marked c.args.self.now _ refl refl c.mark.ensures.same c.mark.ensures.marked

pub returns-clause-shows : goal.returns-clause-shows
returns-clause-shows c = shown_same c.args.self.now _ refl refl c.mark.ensures.same

pub returns-clause-begins : goal.returns-clause-begins
returns-clause-begins c = λ rows held.
    let b = c.args.self.now in
    let same = held_same b _ rows refl refl c.mark.ensures.same held in
    (same, (begins _ (schema_of b) rows refl same, marked_at b _ rows c.mark.ensures.marked held))
