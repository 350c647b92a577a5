use Rattle.std.proofs.Common.{◌≡◌, refl, ap, ◌∙◌}
use Rattle.shred.specs.Buffer.{schema_of}
use Rattle.shred.specs.inner.Filling.{state_of, marked_of, root}
use Rattle.shred.proofs.DroppedRows.{dropped, whole_dropped}
use Rattle.shred.proofs.row_buffer.RowBufferRowSink.drop_row.Goals as goal

pub returns-clause-whole : goal.returns-clause-whole
returns-clause-whole c =
    let b = c.args.self.now in
    whole_dropped b _ refl refl (c.restart.ensures.awaits ∙ ap (λ gs. root gs (state_of c.cut.new.self).columns) c.fields.ensures ∙ ap (root (schema_of b)) c.cut.ensures.cut)

pub returns-clause-dropped : goal.returns-clause-dropped
returns-clause-dropped c = λ rows below.
    let b = c.args.self.now in
    dropped b _ rows refl refl (c.restart.ensures.awaits ∙ ap (λ gs. root gs (state_of c.cut.new.self).columns) c.fields.ensures ∙ ap (root (schema_of b)) c.cut.ensures.cut) below
