use Rattle.std.proofs.Common.{sym, ◌∙◌, ap, subst}
use Rattle.std.proofs.lemmas.Bool.{false≢true}
use Rattle.schema.specs.Keys.{key_of_row}
use Rattle.schema.specs.Shape.{Fields}
use Rattle.schema.specs.Fits.{fits_each}
use Rattle.schema.specs.Views.{row_view}
use Rattle.partition.specs.Folders.{CanPartition}
use Rattle.table_state.proofs.RowFaults.{keyless, fine}
use Rattle.table_state.proofs.checks.check_each.Goals as goal

pub returns-then-not-row_can_partition-clause-fault : goal.returns-then-not-row_can_partition-clause-fault
returns-then-not-row_can_partition-clause-fault c = λ t schema keys columns.
    let row = row_view c.row-item.result in
    let fits = ap (λ (fs : Fields). fits_each fs row) schema ∙ sym c.fits.ensures ∙ c.if-not-fits.false in
    let none = λ (can : CanPartition t.keys (key_of_row t.keys row)). false≢true (sym (c.if-not-row_can_partition.true) ∙ c.row_can_partition.ensures.1 (subst (λ ks. CanPartition ks (key_of_row ks row)) keys can)) in
    c.loop-row.invariant t schema keys columns ∙ keyless t columns c.args.rows.now c.loop-row.row-index c.row-item.result c.loop-row-test.true c.row-item.is fits none

pub loop-row-preserved : goal.loop-row-preserved
loop-row-preserved c = λ t schema keys columns.
    let row = row_view c.row-item.result in
    let fits = ap (λ (fs : Fields). fits_each fs row) schema ∙ sym c.fits.ensures ∙ c.if-not-fits.false in
    let can = subst (λ ks. CanPartition ks (key_of_row ks row)) (sym keys) (c.row_can_partition.ensures.0 c.if-not-row_can_partition.false) in
    c.loop-row.invariant t schema keys columns ∙ fine t columns c.args.rows.now c.loop-row.row-index c.row-item.result c.loop-row-test.true c.row-item.is fits can
