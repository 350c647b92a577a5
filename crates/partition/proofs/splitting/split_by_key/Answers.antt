use Rattle.std.proofs.Common.{◌≡◌, ◌+◌, ◌++◌, ◌∷◌, [], ℕ, suc, ap, ◌∙◌, sym, subst, List, map, take, arith, rules}
use Rattle.std.proofs.Math.Seq.{take-suc}
use Rattle.std.proofs.lemmas.List.{take_all, map_push}
use Rattle.schema.specs.Values.{ValueTree, ValueTrees}
use Rattle.schema.specs.Views.{row_view, rows_view}
use Rattle.std.specs.List.{AllByRecursion}
use Rattle.bits.specs.Refusals.{IsFault}
use Rattle.bits.proofs.Passing.{passes}
use Rattle.schema.specs.declared.row.Row.{Row}
use Rattle.partition.specs.Splitting.{KeyRows, key_rows_view}
use Rattle.partition.specs.inner.Parts.{parts_view, AreWithKeys, IsPlaced, with_row}
use Rattle.schema.specs.Keys.{key_columns_view, key_of_row, row_without_keys}
use Rattle.partition.specs.Folders.{CanPartition}
use Rattle.schema.specs.Views.{key_view}
use Rattle.partition.specs.declared.splitting.KeyRows.{KeyRows as CodeKeyRows}
use Rattle.std.proofs.lemmas.List.Sorted.{ranks_by, answers_always}
use Rattle.partition.proofs.SameKeys.{key_total}
use Rattle.partition.proofs.Splits.{split_is, before}
use Rattle.partition.proofs.WithKeys.{row_of_all, one_more, keys_with_row}
use Rattle.partition.proofs.splitting.split_by_key.Goals as goal

pub returns-in_default-clause-only : goal.returns-in_default-clause-only
returns-in_default-clause-only c = λ u each.
    let can = row_of_all (λ (r : ValueTrees). CanPartition (key_columns_view c.args.columns.now) (key_of_row (key_columns_view c.args.columns.now) r)) c.args.rows.now c.loop-row.row-index c.row-item.result (omega arith) c.row-item.is each in
    (rw c.in_default.is at c.in_ok-parts.ensures.stands) can.values

pub returns-in_err-at-clause-only : goal.returns-in_err-at-clause-only
returns-in_err-at-clause-only c =
    let same : parts_view c.in-Some.parts.items ≡ key_of_row (key_columns_view c.args.columns.now) (row_view c.row-item.result) = rw c.in-Some.is at c.in_ok-parts.ensures.stands in
    passes (λ e. IsFault e → AllByRecursion (λ (r : ValueTrees). CanPartition (key_columns_view c.args.columns.now) (key_of_row (key_columns_view c.args.columns.now) r)) (rows_view c.args.rows.now) → ⊥) c.from_residual-in_err-at.result c.in_err-at.field-0.0 c.from_residual-in_err-at.ensures.1
    (λ fault each. c.in_err-at.ensures.only fault (subst (CanPartition (key_columns_view c.args.columns.now)) (sym same) (row_of_all (λ (r : ValueTrees). CanPartition (key_columns_view c.args.columns.now) (key_of_row (key_columns_view c.args.columns.now) r)) c.args.rows.now c.loop-row.row-index c.row-item.result (omega arith) c.row-item.is each)))

pub loop-row-preserved : goal.loop-row-preserved
loop-row-preserved c =
    let rows = c.args.rows.now in
    let i = c.loop-row.row-index in
    let row = c.row-item.result in
    let same : parts_view c.in-Some.parts.items ≡ key_of_row (key_columns_view c.args.columns.now) (row_view row) = rw c.in-Some.is at c.in_ok-parts.ensures.stands in
    let placed = subst (λ (k : List ValueTree). IsPlaced (key_columns_view c.args.columns.now) (map key_rows_view c.loop-row.split.items) k c.in_ok-at.at (map key_rows_view c.place_of.new.split.items)) same c.in_ok-at.ensures.placed in
    let held = one_more (key_columns_view c.args.columns.now) (rows_view (take i rows)) (row_view row) _ _ c.in_ok-at.at c.loop-row.invariant.held placed in
    let end : map key_rows_view c.push_row.new.split.items ≡ with_row c.in_ok-at.at (row_without_keys (key_columns_view c.args.columns.now) (row_view row)) (map key_rows_view c.place_of.new.split.items)
    = c.in_ok-push_row.ensures.ok ∙ ap (λ (r : ValueTrees). with_row c.in_ok-at.at r (map key_rows_view c.place_of.new.split.items)) c.in_ok-rest.ensures.stands in
    let next : i + 1 ≡ suc i = omega arith in
    let more : take (i + 1) rows ≡ take i rows ++ row ∷ [] = ap (λ (n : ℕ). take n rows) next ∙ take-suc rows i row (omega arith) ∙ ap (λ (r : Row). take i rows ++ r ∷ []) (sym c.row-item.is) in
    let seen : rows_view (take (i + 1) rows) ≡ rows_view (take i rows) ++ row_view row ∷ [] = ap rows_view more ∙ map_push row_view (take i rows) row in
    record {
      same = c.in_ok-at.ensures.keys ∙ sym (ap (map (λ (p : KeyRows). p.key)) end ∙ keys_with_row _ _ _);
      held = rw (end, seen) held;
    }

pub returns-clause-stands : goal.returns-clause-stands
returns-clause-stands c =
    let whole = take_all c.loop-row.row-index c.args.rows.now (omega arith) in
    let held = subst (λ (rs : List Row). AreWithKeys (key_columns_view c.args.columns.now) (rows_view rs) (map key_rows_view c.loop-row.split.items)) whole c.loop-row.invariant.held in
    split_is (key_columns_view c.args.columns.now) (rows_view c.args.rows.now) c.loop-row.split.items _ held c.in_ok-sort_by.ensures.permutation
    (c.in_ok-sort_by.ensures.sorted before (ranks_by key_total (λ (x : CodeKeyRows). key_view x.key)) (answers_always _ _ _ (λ f a r q k. search rules)))
