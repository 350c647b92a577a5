use Rattle.std.proofs.Common.{ℤ, w64, refl, ap, ◌∙◌}
use Rattle.std.proofs.Math.Facts.{to_z-of_z}
use Rattle.std.proofs.lemmas.Result.{on_ok_weaker}
use Rattle.schema.specs.Values.{integer}
use Rattle.assemble.specs.Sinks.{single}
use Rattle.shred.specs.inner.Filling.{state_of, step}
use Rattle.shred.specs.Buffer.{schema_of}
use Rattle.shred.proofs.ShownRows.{shown_more}
use Rattle.shred.proofs.DroppedRows.{same_base}
use Rattle.shred.proofs.row_buffer.RowBufferRowSink.int.Goals as goal

pub returns : goal.returns
returns c =
    let number = to_z-of_z {w = w64} {z = c.args.number} (record { sfits = c.ranges.number.sfits }) in
    let same = ap (λ (z : ℤ). step (state_of c.args.self.now.filling) (single (integer z))) number in
    record { shown = on_ok_weaker c.int.result (λ is. shown_more c.args.self.now _ (single (integer c.args.number)) refl refl (is ∙ same)) c.int.ensures.shown; base_stays = same_base (schema_of c.args.self.now) c.args.self.now.count _ _ c.int.ensures.marked }
