use Rattle.std.proofs.Common.{◌≡◌, List, [], ◌∷◌, ◌++◌, Ok, sym, ap, subst, ◌∙◌}
use Rattle.std.specs.Prelude.{Some, None}
use Rattle.std.proofs.lemmas.List.{append-nil, map-append}
use Rattle.bits.proofs.Passing.{passes}
use Rattle.bits.specs.Refusals.{HasCause}
use Rattle.schema.specs.Values.{ValueTrees}
use Rattle.schema.specs.Views.{row_view, rows_view}
use Rattle.row_group.specs.Left.{TakesRow}
use Rattle.footer.specs.Left.{rows_stand}
use Rattle.footer.proofs.Taken.{one_taken}
use Rattle.footer.proofs.rows.Rows.collected.Goals as goal

pub returns-in_err-row-clause-which : goal.returns-in_err-row-clause-which
returns-in_err-row-clause-which c = λ all s.
    let held = c.row.invariant.held all s in
    passes (HasCause (λ _. ⊥)) c.from_residual.result c.in_err-row.field-0.0 c.from_residual.ensures.1 (subst (HasCause (λ _. ⊥)) (sym (c.in_err-row.ensures.takes held.0 held.2)) tt)

pub returns-in-None-clause-rows_are : goal.returns-in-None-clause-rows_are
returns-in-None-clause-rows_are c = λ all s.
    let held = c.row.invariant.held all s in
    let takes : TakesRow (rows_stand c.row.self) (rows_stand c.next.new.self) (Ok None) = rw c.in-None.is at c.in_ok-row.ensures.takes in
    held.1 ∙ ap (λ (t : List ValueTrees). rows_view c.row.rows.items ++ t) (takes held.0 held.2).0 ∙ append-nil (rows_view c.row.rows.items)

pub row-preserved : goal.row-preserved
row-preserved c = record {
  held = λ all s.
      let held = c.row.invariant.held all s in
      let takes : TakesRow (rows_stand c.row.self) (rows_stand c.next.new.self) (Ok (Some c.in-Some.row)) = rw c.in-Some.is at c.in_ok-row.ensures.takes in
      let next = takes held.0 held.2 in
      let items : rows_view c.push.new.self.items ≡ rows_view c.row.rows.items ++ row_view c.in-Some.row ∷ [] = ap rows_view c.in_ok-push-in-Some.ensures.items ∙ map-append row_view c.row.rows.items (c.in-Some.row ∷ []) in
      (next.0, one_taken all (rows_view c.row.rows.items) held.0 next.0 (row_view c.in-Some.row) held.1 next.1 ∙ ap (λ (t : List ValueTrees). t ++ next.0) (sym items), next.2);
}
