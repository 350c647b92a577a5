use Rattle.std.proofs.Common.{◌≡◌, ◌∙◌, ◌++◌, ◌∷◌, ◌<◌, ◌≤◌, ℕ, [], List, take, get_or, length, Err, true, refl, sym, ap, subst, append_assoc, add-one}
use Rattle.std.proofs.lemmas.Bool.{false≢true}
use Rattle.std.proofs.lemmas.List.{append-nil}
use Rattle.bits.specs.Refusals.{HasCause}
use Rattle.bits.proofs.Passing.{passes}
use Rattle.schema.specs.Fits.{fits_each}
use Rattle.schema.specs.Shape.{Fields}
use Rattle.schema.specs.Keys.{KeyColumn, IsRowOf}
use Rattle.schema.specs.Values.{ValueTrees}
use Rattle.schema.specs.declared.row.Row.{Row as CodeRow}
use Rattle.schema.specs.Views.{key_view, row_view}
use Rattle.gather.specs.GatheredRows.{holds, schema_of, columns_of}
use Rattle.table_commits.proofs.RowsGathered.{keeps_on, memory_else}
use Rattle.table_jobs.proofs.RowsRegathered.{row_at, all_rows}
use Rattle.table_jobs.proofs.regathering.gather_key.Goals as goal

pub loop-stored-init : goal.loop-stored-init
loop-stored-init c = record {
  held = λ before whole held are. subst (holds c.args.gathered.now) (sym (append-nil before)) held;
  table = record { schema = refl; columns = refl; size = refl };
}

pub loop-stored-preserved : goal.loop-stored-preserved
loop-stored-preserved c =
    let so_far = c.loop-stored.invariant in
    let waits = c.args.waiting.now in
    let i = c.loop-stored.stored-index in
    let x = c.stored-item.result in
    let items : c.deref-stored-items.result.now ≡ waits.rows.items = c.deref-stored-items.ensures.value in
    let within : i < length waits.rows.items = subst (λ (xs : List CodeRow). i < length xs) items c.loop-stored-test.true in
    let is : x ≡ get_or waits.rows.items i x = subst (λ (xs : List CodeRow). x ≡ get_or xs i x) items c.stored-item.is in
    let done = c.in_ok-push.ensures in
    record {
      held = λ before whole held are.
          let cs = columns_of c.args.gathered.now in
          let at = row_at cs (key_view waits.key) waits.rows.items whole are i x within is in
          let mine = subst (λ (ks : List KeyColumn). IsRowOf ks (key_view waits.key) (row_view x) at.row) (sym (c.columns.ensures ∙ so_far.table.columns)) at.is in
          let row = c.in_ok-row.ensures.is at.row mine in
          subst (holds c.push.new.self)
          (append_assoc before (take i whole) (row_view c.in_ok-row.row ∷ []) ∙ ap (λ (r : ValueTrees). before ++ (take i whole ++ r ∷ [])) row
          ∙ ap (λ (rs : List ValueTrees). before ++ rs) (sym at.next) ∙ ap (λ (n : ℕ). before ++ take n whole) (sym (add-one i)))
          (done.stands (before ++ take i whole) (so_far.held before whole held are));
      table = keeps_on so_far.table (record { schema = done.same_schema; columns = done.same_columns; size = done.same_size });
    }

pub returns-clause-held : goal.returns-clause-held
returns-clause-held c = λ before whole held are.
    let waits = c.args.waiting.now in
    let i = c.loop-stored.stored-index in
    let items : c.deref-stored-items.result.now ≡ waits.rows.items = c.deref-stored-items.ensures.value in
    let past : length waits.rows.items ≤ i = subst (λ (xs : List CodeRow). length xs ≤ i) items c.loop-stored-test.false in
    subst (λ (rs : List ValueTrees). holds c.loop-stored.gathered (before ++ rs)) (all_rows (columns_of c.args.gathered.now) (key_view waits.key) waits.rows.items whole are i past)
    (c.loop-stored.invariant.held before whole held are)

pub returns-clause-table : goal.returns-clause-table
returns-clause-table c = c.loop-stored.invariant.table

pub returns-in_err-row-clause-table : goal.returns-in_err-row-clause-table
returns-in_err-row-clause-table c = c.loop-stored.invariant.table

pub returns-in_err-push-clause-table : goal.returns-in_err-push-clause-table
returns-in_err-push-clause-table c =
    let failed = c.in_err-push.ensures in
    keeps_on c.loop-stored.invariant.table (record { schema = failed.same_schema; columns = failed.same_columns; size = failed.same_size })

pub returns-in_err-row-clause-only : goal.returns-in_err-row-clause-only
returns-in_err-row-clause-only c = λ whole are fit.
    passes (HasCause (λ _. ⊥)) c.from_residual.result c.in_err-row.field-0.0 c.from_residual.ensures.1 c.in_err-row.ensures.which

pub returns-in_err-push-clause-only : goal.returns-in_err-push-clause-only
returns-in_err-push-clause-only c = λ whole are fit.
    let so_far = c.loop-stored.invariant in
    let waits = c.args.waiting.now in
    let i = c.loop-stored.stored-index in
    let x = c.stored-item.result in
    let items : c.deref-stored-items.result.now ≡ waits.rows.items = c.deref-stored-items.ensures.value in
    let within : i < length waits.rows.items = subst (λ (xs : List CodeRow). i < length xs) items c.loop-stored-test.true in
    let is : x ≡ get_or waits.rows.items i x = subst (λ (xs : List CodeRow). x ≡ get_or xs i x) items c.stored-item.is in
    let at = row_at (columns_of c.args.gathered.now) (key_view waits.key) waits.rows.items whole are i x within is in
    let mine = subst (λ (ks : List KeyColumn). IsRowOf ks (key_view waits.key) (row_view x) at.row) (sym (c.columns.ensures ∙ so_far.table.columns)) at.is in
    let row = c.in_ok-row.ensures.is at.row mine in
    let fits = at.fit (schema_of c.args.gathered.now) fit in
    let e = c.in_err-push.field-0.0 in
    passes (HasCause (λ _. ⊥)) c.from_residual-in_err-push.result e c.from_residual-in_err-push.ensures.1
    (memory_else e c.in_err-push.ensures.which (λ none.
    false≢true (sym (c.in_err-push.ensures.only (ap Err none)) ∙ ap (λ (r : ValueTrees). fits_each (schema_of c.loop-stored.gathered) r) row ∙ subst (λ (t : Fields). fits_each t at.row ≡ true) (sym so_far.table.schema) fits)))
