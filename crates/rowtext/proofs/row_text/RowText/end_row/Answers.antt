use Rattle.std.proofs.Common.{false, ◌≡◌, ◌++◌, ◌∷◌, [], None, drop, reverse, map, refl, sym, ap, subst, ◌∙◌, append_assoc}
use Rattle.std.specs.Prelude.{IsTrue}
use Rattle.schema.specs.Fits.{fits_each}
use Rattle.rowtext.specs.Json.{row_text_as}
use Rattle.rowtext.specs.Rows.{plan_schema}
use Rattle.rowtext.specs.inner.Slots.{slots_view}
use Rattle.rowtext.specs.inner.Levels.{State, object, held, level_at, outer_view, state_of, closed}
use Rattle.rowtext.proofs.RowRuns.{row_closed}
use Rattle.rowtext.proofs.RowSteps.{next_begun, no_order}
use Rattle.rowtext.proofs.Openings.{one_schema}
use Rattle.rowtext.proofs.row_text.RowText.end_row.Goals as goal

pub returns-clause-stands_as : goal.returns-clause-stands_as
returns-clause-stands_as c = λ texts fs lines values shown h.
    let p = c.args.self.now.plan.now in
    let own = plan_schema p in
    let s = state_of c.args.self.now in
    let one = one_schema texts shown.0 fs own shown.1.0 in
    let same = one.1 in
    let left = slots_view (drop c.args.self.now.shown p.slots.items) in
    let row : State = held s.text s.starts (object left None c.in-Row.from 0) s.outer in
    let is : s ≡ row = ap (λ l. held s.text s.starts (level_at p l c.args.self.now.shown) s.outer) c.in-Row.is in
    let ends = ap closed (sym is) ∙ row_closed shown.0 own values (subst (λ gs. IsTrue (fits_each gs values)) same h) lines s shown.1.1.1 in
    let text = c.in_ok-put_line_end.ensures ∙ ap (λ x. x.text ++ 10 ∷ []) ends ∙ append_assoc lines (row_text_as shown.0 own values) (10 ∷ []) ∙ ap (λ gs. lines ++ (row_text_as shown.0 gs values ++ 10 ∷ [])) (sym same) ∙ ap (λ b. lines ++ (row_text_as b fs values ++ 10 ∷ [])) (sym one.0) in
    let none = no_order shown.0 p left lines (lines ++ row_text_as shown.0 own values) (closed row) c.in-Row.from shown.1.1.0 refl ends in (
      shown.0,
      (
        shown.1.0,
        (
          shown.1.1.0,
          next_begun shown.0 p c.put_line_end.new.text.items c.args.self.now.starts.items (lines ++ (row_text_as texts fs values ++ 10 ∷ [])) (object (slots_view p.slots.items) None c.len.result 0) (reverse (map (outer_view p) c.args.self.now.outer.items)) c.len.result
              shown.1.1.0 (ap (λ o. object (slots_view p.slots.items) o c.len.result 0) none) c.len.ensures text (ap (λ x. x.starts) ends) (ap (λ x. x.outer) ends),
        ),
      ),
    )

pub returns-clause-stands : goal.returns-clause-stands
returns-clause-stands c = returns-clause-stands_as c false

pub returns-in_default : goal.returns-in_default
returns-in_default c = record { stands_as = c.end_sorted_row.ensures.stands_as; stands = c.end_sorted_row.ensures.stands_as false }
