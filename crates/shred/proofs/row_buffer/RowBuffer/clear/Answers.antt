use Rattle.std.proofs.Common.{length, refl, ap, ◌∙◌}
use Rattle.shred.specs.Buffer.{schema_of}
use Rattle.shred.specs.inner.Filling.{State, state_of, root}
use Rattle.shred.proofs.ShownRows.{as_many_empty, none_held}
use Rattle.shred.proofs.row_buffer.RowBuffer.clear.Goals as goal

pub invariant_of-self : goal.invariant_of-self
invariant_of-self c =
    let b = c.args.self.now in
    record { sized = as_many_empty c.restart.new.self (length b.filling.columns.items) (ap (λ (s : State). s.columns) c.restart.ensures.awaits ∙ c.clear.ensures.empty) ∙ b.sized }

pub returns-clause-emptied : goal.returns-clause-emptied
returns-clause-emptied c =
    let b = c.args.self.now in
    none_held _ (schema_of b) (length b.filling.columns.items) refl b.sized refl
    (c.restart.ensures.awaits ∙ ap (λ gs. root gs (state_of c.clear.new.self).columns) c.fields.ensures ∙ ap (root (schema_of b)) c.clear.ensures.empty)
