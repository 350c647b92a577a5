use Rattle.std.proofs.Common.{false, ◌++◌, ◌∷◌, [], List, ℕ, refl, sym, ap, subst, ◌∙◌, append_assoc}
use Rattle.std.specs.Prelude.{IsTrue, option_map}
use Rattle.schema.specs.Fits.{fits_each}
use Rattle.schema.specs.Views.{row_view}
use Rattle.rowtext.specs.Json.{row_text_as}
use Rattle.rowtext.specs.Rows.{plan_schema, IsReadyAs}
use Rattle.rowtext.specs.inner.Opening.{opening_as}
use Rattle.rowtext.specs.inner.Slots.{slots_view, order_view, vec_items}
use Rattle.rowtext.specs.inner.Levels.{top_of, root_as}
use Rattle.rowtext.proofs.KeptTexts.{row_printed}
use Rattle.rowtext.proofs.RowSteps.{next_begun}
use Rattle.rowtext.proofs.Openings.{one_schema}
use Rattle.rowtext.proofs.row_text.RowText.put_line.Goals as goal

pub returns-clause-stands_as : goal.returns-clause-stands_as
returns-clause-stands_as c = λ texts fs lines shown h.
    let plan = c.args.self.now.plan.now in
    let own = plan_schema plan in
    let one = one_schema texts shown.0 fs own shown.1.0 in
    let same = one.1 in
    let ready = shown.1.1.0 in
    let row = c.args.row.now in
    let values = row_view row in
    let printed = row_printed shown.0 own (slots_view c.slots.result.now) (slots_view plan.slots.items) (order_view c.order.result) (option_map vec_items plan.order) c.as_slice.result.now row.values.items c.args.self.now.text.items c.put_object.new.out.items
    c.in_ok-put_object.ensures (ap slots_view c.slots.ensures) ready.0 c.order.ensures ready.1 c.as_slice.ensures.value (subst (λ gs. IsTrue (fits_each gs values)) same h) in
    let before = ap (λ s. s.text) shown.1.1.1 in
    let all = lines ++ (row_text_as texts fs values ++ 10 ∷ []) in
    let text = c.in_ok-push.ensures.items ∙ ap (λ (s : List ℕ). s ++ 10 ∷ []) (printed ∙ ap (λ (s : List ℕ). s ++ row_text_as shown.0 own values) before) ∙ append_assoc lines (row_text_as shown.0 own values) (10 ∷ []) ∙ ap (λ gs. lines ++ (row_text_as shown.0 gs values ++ 10 ∷ [])) (sym same) ∙ ap (λ b. lines ++ (row_text_as b fs values ++ 10 ∷ [])) (sym one.0) in
    let plan_same = c.begin_row.ensures.same in (
      shown.0,
      (
        shown.1.0 ∙ ap (λ p. opening_as shown.0 (plan_schema p)) (sym plan_same),
        (
          subst (IsReadyAs shown.0) (sym plan_same) ready,
          c.begin_row.ensures.begun
              ∙ next_begun shown.0 plan c.push.new.self.items [] all (top_of plan _) [] _ ready refl refl text refl refl
              ∙ ap (λ p. root_as shown.0 all (plan_schema p)) (sym plan_same),
        ),
      ),
    )

pub returns-clause-stands : goal.returns-clause-stands
returns-clause-stands c = returns-clause-stands_as c false
