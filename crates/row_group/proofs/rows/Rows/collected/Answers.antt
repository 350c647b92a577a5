use Rattle.std.proofs.Common.{◌≡◌, ◌∙◌, List, [], ◌∷◌, ◌++◌, Option, Ok, sym, ap, subst, append_assoc}
use Rattle.std.proofs.lemmas.List.{map-append}
use Rattle.schema.specs.declared.row.Row.{Row}
use Rattle.schema.specs.Values.{ValueTrees}
use Rattle.schema.specs.Views.{row_view, rows_view}
use Rattle.row_group.specs.Left.{rows_stand, TakesRow}
use Rattle.row_group.proofs.rows.Rows.collected.Goals as goal

pub rows-init : goal.rows-init
rows-init c = λ stood s. (stood, sym (ap (λ (rows : List Row). rows_view rows ++ stood) c.new-rows.ensures.items), s)

pub rows-preserved : goal.rows-preserved
rows-preserved c = λ stood s.
    let old = c.rows.self in
    let new = c.next.new.self in
    let row = row_view c.in-Some.row in
    let done = rows_view c.rows.rows.items in
    let w = c.rows.invariant stood s in
    let takes = subst (λ (o : Option Row). TakesRow (rows_stand old) (rows_stand new) (Ok o)) c.in-Some.is c.in_ok-next.ensures.takes in
    let t = takes w.0 w.2 in
    let pushed : rows_view c.push.new.self.items ≡ done ++ row ∷ [] = ap rows_view c.in_ok-push-in-Some.ensures.items ∙ map-append row_view c.rows.rows.items (c.in-Some.row ∷ []) in
    (t.0, w.1 ∙ ap (λ (rest : List ValueTrees). done ++ rest) t.1 ∙ sym (append_assoc done (row ∷ []) t.0) ∙ sym (ap (λ (rows : List ValueTrees). rows ++ t.0) pushed), t.2)
