use Rattle.std.proofs.Common.{◌≡◌, true, List, refl, ap, sym, subst, ◌∙◌, arith}
use Rattle.schema.specs.Shape.{Fields}
use Rattle.schema.specs.Values.{ValueTrees}
use Rattle.schema.specs.Fits.{fits_each}
use Rattle.assemble.specs.Sinks.{tokens_each}
use Rattle.shred.specs.Buffer.{schema_of, Holds}
use Rattle.shred.specs.inner.Filling.{state_of, root}
use Rattle.shred.proofs.Openings.{one_schema, rows_back}
use Rattle.shred.proofs.ShownRows.{row_held}
use Rattle.shred.proofs.row_buffer.RowBuffer.end_row.Goals as goal

pub returns-then-self-ge-MOST_ROWS-clause-of : goal.returns-then-self-ge-MOST_ROWS-clause-of
returns-then-self-ge-MOST_ROWS-clause-of c = λ fs rows values shown. sym (one_schema fs (schema_of c.args.self.now) shown.0)

pub returns-clause-of : goal.returns-clause-of
returns-clause-of c = λ fs rows values shown. sym (one_schema fs (schema_of c.args.self.now) shown.0)

pub returns-clause-stands : goal.returns-clause-stands
returns-clause-stands c = λ fs rows values shown fit.
    let b = c.args.self.now in
    let held : Holds b rows (tokens_each values) = subst (λ (rs : List ValueTrees). Holds b rs (tokens_each values)) (rows_back rows) shown.1 in
    let fits = subst (λ (gs : Fields). fits_each gs values ≡ true) (one_schema fs (schema_of b) shown.0) fit in
    row_held b _ rows values (state_of b.filling) held.fit held.counted fits held.state refl refl (omega arith)
    (c.restart.ensures.awaits ∙ ap (λ (gs : Fields). root gs (state_of b.filling).columns) c.fields.ensures)
