use Rattle.std.proofs.Common.{◌≡◌, [], sym, subst}
use Rattle.bits.specs.declared.refusal.Refusal.TheVariants.{RowShape}
use Rattle.bits.specs.Refusals.{HasCause}
use Rattle.bits.proofs.Passing.{passes}
use Rattle.schema.specs.Fits.{RowsFit}
use Rattle.schema.specs.Shape.{Fields}
use Rattle.schema.specs.Views.{rows_view}
use Rattle.table_commits.proofs.RowsGathered.{kept_table, shape_or_memory}
use Rattle.table_changes.proofs.gathered_rows.gather_rows.Goals as goal

pub returns-in_err-gathered-clause-which : goal.returns-in_err-gathered-clause-which
returns-in_err-gathered-clause-which c =
    let e = c.in_err-gathered.field-0.0 in
    passes (HasCause (λ f. f ≡ RowShape)) c.from_residual.result e c.from_residual.ensures.1 (shape_or_memory e c.in_err-gathered.ensures.which)

pub returns-in_err-push_rows-clause-only : goal.returns-in_err-push_rows-clause-only
returns-in_err-push_rows-clause-only c = λ fit.
    let e = c.in_err-push_rows.field-0.0 in
    passes (HasCause (λ _. ⊥)) c.from_residual-in_err-push_rows.result e c.from_residual-in_err-push_rows.ensures.1
    (c.in_err-push_rows.ensures.only (subst (λ (t : Fields). RowsFit t (rows_view c.args.rows.now)) (sym c.in_ok-gathered.ensures.table.schema) fit))

pub returns-clause-held : goal.returns-clause-held
returns-clause-held c = c.in_ok-push_rows.ensures.held [] c.in_ok-gathered.ensures.begins

pub returns-clause-table : goal.returns-clause-table
returns-clause-table c = kept_table c.in_ok-gathered.ensures.table c.in_ok-push_rows.ensures.table
