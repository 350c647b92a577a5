use Rattle.std.proofs.Common.{◌∙◌, ◌++◌, ℕ, List, take, refl, sym, ap, subst, append_assoc, add-one}
use Rattle.std.proofs.lemmas.List.{append-nil}
use Rattle.bits.specs.Refusals.{HasCause}
use Rattle.bits.proofs.Passing.{passes}
use Rattle.schema.specs.Fits.{RowsFit}
use Rattle.schema.specs.Shape.{Fields}
use Rattle.schema.specs.Keys.{KeyColumn, AreRowsOf}
use Rattle.schema.specs.Values.{ValueTrees}
use Rattle.schema.specs.Views.{key_view, rows_view}
use Rattle.partition.specs.Splitting.{KeyRows}
use Rattle.gather.specs.GatheredRows.{holds, schema_of, columns_of}
use Rattle.table_commits.specs.Filling.{rows_waiting}
use Rattle.table_commits.proofs.RowsGathered.{keeps_on}
use Rattle.table_jobs.proofs.RowsRegathered.{rows_at, all_keys}
use Rattle.table_jobs.proofs.regathering.gather_waiting.Goals as goal

pub loop-rows-init : goal.loop-rows-init
loop-rows-init c = record {
  held = λ before whole held are. subst (holds c.args.gathered.now) (sym (append-nil before)) held;
  table = record { schema = refl; columns = refl; size = refl };
}

pub loop-rows-preserved : goal.loop-rows-preserved
loop-rows-preserved c =
    let so_far = c.loop-rows.invariant in
    let i = c.loop-rows.rows-index in
    let x = c.rows-item.result in
    let done = c.in_ok-gather_key.ensures in
    record {
      held = λ before whole held are.
          let at = rows_at (columns_of c.args.gathered.now) c.args.waiting.now whole are i x c.loop-rows-test.true c.rows-item.is in
          let mine = subst (λ (ks : List KeyColumn). AreRowsOf ks (key_view x.key) (rows_view x.rows.items) at.rows) (sym so_far.table.columns) at.are in
          subst (holds c.gather_key.new.gathered)
          (append_assoc before (rows_waiting (take i whole)) at.rows ∙ ap (λ (rs : List ValueTrees). before ++ rs) (sym at.next) ∙ ap (λ (n : ℕ). before ++ rows_waiting (take n whole)) (sym (add-one i)))
          (done.held (before ++ rows_waiting (take i whole)) at.rows (so_far.held before whole held are) mine);
      table = keeps_on so_far.table done.table;
    }

pub returns-clause-held : goal.returns-clause-held
returns-clause-held c = λ before whole held are.
    subst (λ (vs : List KeyRows). holds c.loop-rows.gathered (before ++ rows_waiting vs)) (all_keys (columns_of c.args.gathered.now) c.args.waiting.now whole are c.loop-rows.rows-index c.loop-rows-test.false)
    (c.loop-rows.invariant.held before whole held are)

pub returns-clause-table : goal.returns-clause-table
returns-clause-table c = c.loop-rows.invariant.table

pub returns-in_err-gather_key-clause-table : goal.returns-in_err-gather_key-clause-table
returns-in_err-gather_key-clause-table c = keeps_on c.loop-rows.invariant.table c.in_err-gather_key.ensures.table

pub returns-in_err-gather_key-clause-only : goal.returns-in_err-gather_key-clause-only
returns-in_err-gather_key-clause-only c = λ whole are fit.
    let so_far = c.loop-rows.invariant in
    let x = c.rows-item.result in
    let at = rows_at (columns_of c.args.gathered.now) c.args.waiting.now whole are c.loop-rows.rows-index x c.loop-rows-test.true c.rows-item.is in
    let mine = subst (λ (ks : List KeyColumn). AreRowsOf ks (key_view x.key) (rows_view x.rows.items) at.rows) (sym so_far.table.columns) at.are in
    let fits = subst (λ (fs : Fields). RowsFit fs at.rows) (sym so_far.table.schema) (at.fit (schema_of c.args.gathered.now) fit) in
    passes (HasCause (λ _. ⊥)) c.from_residual.result c.in_err-gather_key.field-0.0 c.from_residual.ensures.1 (c.in_err-gather_key.ensures.only at.rows mine fits)
