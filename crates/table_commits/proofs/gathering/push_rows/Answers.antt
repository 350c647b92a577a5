use Rattle.std.proofs.Common.{◌≡◌, ◌∙◌, ◌++◌, ◌∷◌, [], List, take, Err, refl, sym, ap, subst, true, append_assoc}
use Rattle.std.specs.Prelude.{IsTrue}
use Rattle.std.proofs.lemmas.Bool.{false≢true}
use Rattle.std.proofs.lemmas.List.{map_push, append-nil}
use Rattle.lists.proofs.Slices.{take_next as take_item, take_whole, all_mapped_at as all_at}
use Rattle.bits.specs.declared.refusal.Refusal.TheVariants.{RowShape}
use Rattle.bits.specs.Refusals.{HasCause}
use Rattle.bits.proofs.Passing.{passes}
use Rattle.schema.specs.Fits.{fits_each}
use Rattle.schema.specs.Shape.{Fields}
use Rattle.schema.specs.Values.{ValueTrees}
use Rattle.schema.specs.declared.row.Row.{Row as CodeRow}
use Rattle.schema.specs.Views.{row_view, rows_view}
use Rattle.table.specs.Table.{Row}
use Rattle.gather.specs.GatheredRows.{holds, schema_of}
use Rattle.table_commits.proofs.RowsGathered.{keeps_on, memory_else}
use Rattle.table_commits.proofs.gathering.push_rows.Goals as goal

pub loop-row-init : goal.loop-row-init
loop-row-init c = record {
  held = λ before held. subst (holds c.args.gathered.now) (sym (append-nil before)) held;
  table = record { schema = refl; columns = refl; size = refl };
}

pub loop-row-preserved : goal.loop-row-preserved
loop-row-preserved c =
    let so_far = c.loop-row.invariant in
    let rows = c.args.rows.now in
    let i = c.loop-row.row-index in
    let row = c.row-item.result in
    let item = take_item rows i row c.loop-row-test.true c.row-item.is in
    let done = c.in_ok-push.ensures in
    record {
      held = λ before held.
          subst (holds c.push.new.self) (append_assoc before (rows_view (take i rows)) (row_view row ∷ []) ∙ ap (λ (rs : List ValueTrees). before ++ rs) (sym (map_push row_view (take i rows) row) ∙ sym (ap rows_view item)))
          (done.stands (before ++ rows_view (take i rows)) (so_far.held before held));
      table = keeps_on so_far.table (record { schema = done.same_schema; columns = done.same_columns; size = done.same_size });
    }

pub returns-clause-held : goal.returns-clause-held
returns-clause-held c = λ before held.
    subst (λ (rs : List CodeRow). holds c.loop-row.gathered (before ++ rows_view rs)) (take_whole c.args.rows.now c.loop-row.row-index c.loop-row-test.false) (c.loop-row.invariant.held before held)

pub returns-clause-table : goal.returns-clause-table
returns-clause-table c = c.loop-row.invariant.table

pub returns-in_err-push-clause-table : goal.returns-in_err-push-clause-table
returns-in_err-push-clause-table c =
    let failed = c.in_err-push.ensures in
    keeps_on c.loop-row.invariant.table (record { schema = failed.same_schema; columns = failed.same_columns; size = failed.same_size })

pub returns-in_err-push-clause-only : goal.returns-in_err-push-clause-only
returns-in_err-push-clause-only c = λ fit.
    let rows = c.args.rows.now in
    let i = c.loop-row.row-index in
    let fits = all_at (λ (r : Row). IsTrue (fits_each (schema_of c.args.gathered.now) r)) row_view rows i c.row-item.result c.loop-row-test.true c.row-item.is fit in
    let e = c.in_err-push.field-0.0 in
    passes (HasCause (λ _. ⊥)) c.from_residual.result e c.from_residual.ensures.1
    (memory_else e c.in_err-push.ensures.which (λ is.
    false≢true (sym (c.in_err-push.ensures.only (ap Err is)) ∙ subst (λ (t : Fields). fits_each t (row_view c.row-item.result) ≡ true) (sym c.loop-row.invariant.table.schema) fits)))
