use Rattle.std.proofs.Common.{◌≡◌, ◌∙◌, List, [], ◌∷◌, ◌++◌, Option, Ok, sym, ap, subst, append_assoc}
use Rattle.std.specs.Prelude.{None}
use Rattle.std.proofs.lemmas.List.{append-nil, map-append}
use Rattle.bits.specs.declared.refusal.Refusal.{Refusal}
use Rattle.bits.specs.declared.refusal.Refusal.TheVariants.{Memory}
use Rattle.schema.specs.declared.row.Row.{Row}
use Rattle.schema.specs.Values.{ValueTrees}
use Rattle.schema.specs.Views.{row_view, rows_view}
use Rattle.row_group.specs.Left.{TakesRow}
use Rattle.scan.specs.Left.{rows_stand}
use Rattle.scan.proofs.Taken.{err_only}
use Rattle.scan.proofs.rows_left.Rows.collected.Goals as goal

pub rows-init : goal.rows-init
rows-init c = λ stood s. (stood, sym (ap (λ (rows : List Row). rows_view rows ++ stood) c.new-rows.ensures.items), s)

pub rows-preserved : goal.rows-preserved
rows-preserved c = λ stood s.
    let old = c.rows.self in
    let new = c.next.new.self in
    let row = row_view c.in-Some.row in
    let done = rows_view c.rows.rows.items in
    let w = c.rows.invariant stood s in
    let takes = subst (λ (o : Option Row). TakesRow (rows_stand old) (rows_stand new) (Ok o)) c.in-Some.is c.in_ok-next.ensures.takes in
    let t = takes w.0 w.2 in
    let pushed : rows_view c.push.new.self.items ≡ done ++ row ∷ [] = ap rows_view c.in_ok-push-in-Some.ensures.items ∙ map-append row_view c.rows.rows.items (c.in-Some.row ∷ []) in
    (t.0, w.1 ∙ ap (λ (rest : List ValueTrees). done ++ rest) t.1 ∙ sym (append_assoc done (row ∷ []) t.0) ∙ sym (ap (λ (rows : List ValueTrees). rows ++ t.0) pushed), t.2)

pub returns-in_err-next-clause-which : goal.returns-in_err-next-clause-which
returns-in_err-next-clause-which c =
    err_only (λ (e : Refusal). (stood : List ValueTrees) → rows_stand c.args.self stood → e ≡ Memory) c.from_residual.result c.in_err-next.field-0.0 c.from_residual.ensures.1
    (λ stood s. let w = c.rows.invariant stood s in c.in_err-next.ensures.takes w.0 w.2)

pub returns-in-None-clause-rows_are : goal.returns-in-None-clause-rows_are
returns-in-None-clause-rows_are c = λ stood s.
    let w = c.rows.invariant stood s in
    let takes : TakesRow (rows_stand c.rows.self) (rows_stand c.next.new.self) (Ok None) = rw c.in-None.is at c.in_ok-next.ensures.takes in
    w.1 ∙ ap (λ (t : List ValueTrees). rows_view c.rows.rows.items ++ t) (takes w.0 w.2).0 ∙ append-nil (rows_view c.rows.rows.items)
