use Rattle.std.proofs.Common.{◌≡◌, ◌++◌, ◌∷◌, [], List, map, take, ap, sym, ◌∙◌, subst}
use Rattle.std.proofs.lemmas.List.{map_push}
use Rattle.bits.specs.Refusals.{HasCause}
use Rattle.bits.proofs.Passing.{passes}
use Rattle.lists.proofs.Slices.{take_next as take_item, take_whole}
use Rattle.schema.specs.Law.{IsSchema}
use Rattle.schema.specs.Shape.{Fields}
use Rattle.schema.specs.Stripe.{Entry}
use Rattle.schema.specs.Views.{entry_view, column_view, columns_view, rows_view}
use Rattle.assemble.specs.declared.cursor.Cursor.{Cursor}
use Rattle.assemble.specs.Cursors.{entries_left, cursor_stands}
use Rattle.assemble.specs.RowsOf.{StandForRows}
use Rattle.table_jobs.proofs.RowsOfColumns.{rows_back, only_poor}
use Rattle.table_jobs.proofs.rests.rows_of.Goals as goal

pub loop-column-init : goal.loop-column-init
loop-column-init c = ap (map entries_left) c.in_ok-cursors.ensures.items

pub loop-column-preserved : goal.loop-column-preserved
loop-column-preserved c =
    let at = c.loop-column in
    let items = c.deref-column-items.result.now in
    let x = c.column-item.result in
    let item = take_item items at.column-index x c.loop-column-test.true c.column-item.is in
    let is : entries_left c.new.result ≡ column_view x = c.new.ensures.all ∙ ap (map entry_view) c.as_slice.ensures.value in
    ap (map entries_left) c.in_ok-push.ensures.items ∙ map_push entries_left at.cursors.items c.new.result
    ∙ ap (λ (cs : List (List Entry)). cs ++ entries_left c.new.result ∷ []) at.invariant
    ∙ ap (λ (e : List Entry). columns_view (take at.column-index items) ++ e ∷ []) is
    ∙ sym (ap columns_view item ∙ map_push column_view (take at.column-index items) x)

pub returns-clause-are : goal.returns-clause-are
returns-clause-are c = λ held known.
    let buffer = c.args.buffer.now in
    let at = c.loop-column in
    let all = at.invariant ∙ ap columns_view (take_whole c.deref-column-items.result.now at.column-index c.loop-column-test.false ∙ c.deref-column-items.ensures.value) ∙ c.in_ok-columns.ensures.are held known in
    let rows = rows_view c.in_ok-rows.rows.items in
    let stand = subst (λ (cs : List Cursor). StandForRows cursor_stands cs c.schema-2.result.now rows) c.as_mut_slice.ensures.value c.in_ok-rows.ensures.stands in
    rows_back buffer held rows at.cursors.items c.columns_determine_rows.ensures (subst IsSchema c.schema.ensures c.leaves.ensures.valid) known all
    (subst (λ (fs : Fields). StandForRows cursor_stands at.cursors.items fs rows) c.schema-2.ensures stand)

pub returns-in_err-columns-clause-only : goal.returns-in_err-columns-clause-only
returns-in_err-columns-clause-only c = λ held known.
    passes (HasCause (λ _. ⊥)) c.from_residual.result c.in_err-columns.field-0.0 c.from_residual.ensures.1 c.in_err-columns.ensures.which

pub returns-in_err-rows-clause-only : goal.returns-in_err-rows-clause-only
returns-in_err-rows-clause-only c = λ held known.
    let buffer = c.args.buffer.now in
    let at = c.loop-column in
    let all = at.invariant ∙ ap columns_view (take_whole c.deref-column-items.result.now at.column-index c.loop-column-test.false ∙ c.deref-column-items.ensures.value) ∙ c.in_ok-columns.ensures.are held known in
    let e = c.in_err-rows.field-0.0 in
    passes (HasCause (λ _. ⊥)) c.from_residual-in_err-rows.result e c.from_residual-in_err-rows.ensures.1
    (only_poor _ _ buffer held at.cursors.items _ _ c.schema-2.result.now e known all c.as_mut_slice.ensures.value c.schema-2.ensures c.in_err-rows.ensures.only c.in_err-rows.ensures.which)
