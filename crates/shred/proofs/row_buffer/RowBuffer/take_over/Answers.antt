use Rattle.std.proofs.Common.{refl, ap, ◌∙◌, arith}
use Rattle.shred.specs.inner.Filling.{State, state_of, taken, root}
use Rattle.shred.specs.Buffer.{schema_of}
use Rattle.shred.proofs.TakenRows.{rows_taken}
use Rattle.shred.proofs.row_buffer.RowBuffer.take_over.Goals as goal

pub returns-in-Ok-clause-stands : goal.returns-in-Ok-clause-stands
returns-in-Ok-clause-stands c = λ rows others held more.
    let b = c.args.self.now in
    let o = c.args.other.now in
    let mid = state_of c.take_over.new.self in
    let took = c.in-Ok.ensures.taken ∙ ap (λ (s : State). taken s (state_of o.filling).columns) c.mark.ensures.same in
    rows_taken b o _ rows others mid c.requires.same refl (omega (arith)) (omega (arith)) took
    (c.restart.ensures.awaits ∙ ap (λ gs. root gs mid.columns) c.fields.ensures) held more
