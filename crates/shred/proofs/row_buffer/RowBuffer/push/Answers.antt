use Rattle.std.proofs.Common.{rules, ◌≡◌, true, refl, ap, ◌∙◌, arith}
use Rattle.schema.specs.Values.{views}
use Rattle.schema.specs.Views.{row_view}
use Rattle.schema.specs.Fits.{fits_each}
use Rattle.assemble.specs.Sinks.{tokens_each}
use Rattle.shred.specs.Buffer.{schema_of}
use Rattle.shred.specs.inner.Filling.{State, state_of, run, root}
use Rattle.shred.proofs.ShownRows.{row_held}
use Rattle.shred.proofs.row_buffer.RowBuffer.push.Goals as goal

pub returns-in-Ok-clause-stands : goal.returns-in-Ok-clause-stands
returns-in-Ok-clause-stands c = λ rows held.
    let b = c.args.self.now in
    let fs = schema_of b in
    let values = row_view c.args.row in
    let fit : fits_each fs values ≡ true = search rules in
    let mid = state_of c.show_each.new.self in
    let shown = c.in-Ok.ensures.shown ∙ ap (λ vs. run (state_of c.mark.new.self) (tokens_each (views vs))) c.as_slice.ensures.value ∙ ap (λ (s : State). run s (tokens_each values)) (c.mark.ensures.same ∙ held.state) in
    row_held b _ rows values mid held.fit held.counted fit shown refl refl (omega arith)
    (c.restart.ensures.awaits ∙ ap (λ gs. root gs mid.columns) c.fields.ensures)
